use Rattle.std.proofs.Common.{sym}
use Rattle.type_schema.specs.SchemaViews.{script_of}
use Rattle.check_report.specs.Views.{witness_data}
use Rattle.impact_shrink.proofs.Still.{run-left}
use Rattle.impact_shrink.proofs.Within.{within}
use Rattle.impact_shrink.proofs.judging.is_real.Goals as goal

pub changes_within-requires : goal.changes_within-requires
changes_within-requires c = within (script_of c.args.t.now) (witness_data c.args.w.now) c.requires.real

pub is_real_after-requires-clause-after : goal.is_real_after-requires-clause-after
is_real_after-requires-clause-after c = sym (run-left (script_of c.args.t.now) c.args.w.now.command (sym c.if-changes_within.ensures) c.args.d.now)
