use Rattle.type_schema.specs.SchemaViews.{script_of}
use Rattle.check_report.specs.Views.{witness_data}
use Rattle.impact_shrink.proofs.Dropped.{held-needed}
use Rattle.impact_shrink.proofs.dropping.without.Goals as goal

pub returns-in-Err : goal.returns-in-Err
returns-in-Err c =
    held-needed (script_of c.args.t.now) c.requires.script (witness_data c.args.w.now) c.args.base.now c.requires.base c.args.place c.in-Err.field-0 c.in-Err.ensures.held
