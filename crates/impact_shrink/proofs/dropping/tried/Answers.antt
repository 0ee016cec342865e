use Rattle.std.proofs.Common.{refl}
use Rattle.type_schema.specs.SchemaViews.{script_of}
use Rattle.check_report.specs.Views.{witness_data}
use Rattle.impact_shrink.proofs.Dropped.{tried-stays, tried-goes}
use Rattle.impact_shrink.proofs.dropping.tried.Goals as goal

pub returns-in-Some : goal.returns-in-Some
returns-in-Some c =
    tried-goes (script_of c.args.t.now) c.requires.script (witness_data c.args.w.now) c.args.place c.args.left _ c.in_ok-found.found c.in-Some.base c.in-Some.is refl refl c.requires.left c.in_ok-found.ensures

pub returns-in-None : goal.returns-in-None
returns-in-None c =
    tried-stays (script_of c.args.t.now) c.requires.script (witness_data c.args.w.now) c.args.place c.args.left c.args.left c.in_ok-found.found c.in-None.is refl c.in_ok-found.ensures
