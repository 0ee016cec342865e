use Rattle.std.proofs.Common.{List, subst}
use Rattle.std.specs.Prelude.{IfOk}
use Rattle.type_schema.specs.SchemaViews.{script_of}
use Rattle.check_report.specs.Views.{witness_data}
use Rattle.impact_shrink.specs.Small.{over}
use Rattle.impact_shrink.specs.declared.places.Place.{Place}
use Rattle.impact_shrink.specs.Dropped.{IsLeft}
use Rattle.impact_shrink.proofs.Dropped.{real-start, rounds-done}
use Rattle.impact_shrink.proofs.shrinking.round.Goals as goal

pub all_places-requires : goal.all_places-requires
all_places-requires c = (real-start (script_of c.args.t.now) (over (witness_data c.args.w.now) c.args.base) c.requires.base).only

pub returns : goal.returns
returns c =
    rounds-done (script_of c.args.t.now) (witness_data c.args.w.now) c.args.base c.in_ok-places.places.items c.pass.result c.in_ok-places.ensures
    (subst (λ (ps : List Place). IfOk c.pass.result (IsLeft (script_of c.args.t.now) (witness_data c.args.w.now) c.args.base ps)) c.as_slice.ensures.value c.pass.ensures)
