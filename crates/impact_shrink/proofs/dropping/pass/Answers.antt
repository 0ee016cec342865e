use Rattle.std.proofs.Common.{List, arith, refl, subst}
use Rattle.std.proofs.lemmas.List.{take_all}
use Rattle.type_schema.specs.SchemaViews.{script_of}
use Rattle.check_report.specs.Views.{witness_data}
use Rattle.impact_shrink.specs.Dropped.{IsLeft}
use Rattle.impact_shrink.specs.declared.places.Place.{Place}
use Rattle.impact_shrink.proofs.Dropped.{none-tried, one-more}
use Rattle.impact_shrink.proofs.dropping.pass.Goals as goal

pub loop-place-init : goal.loop-place-init
loop-place-init c = none-tried (script_of c.args.t.now) (witness_data c.args.w.now) c.args.base _ refl refl c.requires.base

pub loop-place-preserved : goal.loop-place-preserved
loop-place-preserved c =
    one-more (script_of c.args.t.now) (witness_data c.args.w.now) c.args.base c.args.places.now c.loop-place.place-index _ c.loop-place-test.true
    c.loop-place.left _ c.loop-place.invariant c.in_ok-left.ensures

pub returns : goal.returns
returns c =
    subst (λ (ps : List Place). IsLeft (script_of c.args.t.now) (witness_data c.args.w.now) c.args.base ps c.loop-place.left)
    (take_all c.loop-place.place-index c.args.places.now (omega arith)) c.loop-place.invariant
