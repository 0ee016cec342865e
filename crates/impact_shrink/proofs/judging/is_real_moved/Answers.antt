use Rattle.type_schema.specs.SchemaViews.{script_of}
use Rattle.check_report.specs.Views.{witness_data}
use Rattle.impact_shrink.proofs.Within.{within}
use Rattle.impact_shrink.proofs.judging.is_real_moved.Goals as goal

pub prefix-requires-clause-within : goal.prefix-requires-clause-within
prefix-requires-clause-within c = within (script_of c.args.t.now) (witness_data c.args.w.now) c.requires.real
