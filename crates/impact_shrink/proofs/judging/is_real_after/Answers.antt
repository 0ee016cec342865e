use Rattle.type_schema.specs.SchemaViews.{script_of}
use Rattle.check_report.specs.Views.{witness_data}
use Rattle.impact_shrink.proofs.Judged.{allowed-decides, leak-decides, if-decides}
use Rattle.impact_shrink.proofs.judging.is_real_after.Goals as goal

pub returns-in-Some : goal.returns-in-Some
returns-in-Some c =
    if-decides c.leaks.result _ _ c.leaks.ensures
    (leak-decides (script_of c.args.t.now) (witness_data c.args.w.now) c.args.d.now c.args.after.now c.requires.after c.in-Some.cell c.in-Some.is c.requires.real c.requires.start)

pub returns-in-None : goal.returns-in-None
returns-in-None c =
    if-decides c.is_newly_allowed.result _ _ c.is_newly_allowed.ensures
    (allowed-decides (script_of c.args.t.now) (witness_data c.args.w.now) c.args.d.now c.args.after.now c.requires.after c.in-None.is c.requires.real c.requires.start)
