use Rattle.std.proofs.Common.{ap, sym, ◌∙◌, subst}
use Rattle.type_schema.specs.SchemaViews.{script_of}
use Rattle.data_meaning.specs.Database.{Database}
use Rattle.data_meaning.specs.Gain.{IsStart}
use Rattle.data_records.specs.Removed.{without_record}
use Rattle.check_report.specs.Views.{witness_data}
use Rattle.impact_shrink.specs.Real.{IsReal}
use Rattle.impact_shrink.specs.Small.{over}
use Rattle.impact_shrink.proofs.Dropped.{real-start}
use Rattle.impact_shrink.proofs.Parts.{start-without}
use Rattle.impact_shrink.proofs.dropping.without_unnamed.Goals as goal

pub is_real-requires-clause-start : goal.is_real-requires-clause-start
is_real-requires-clause-start c =
    let same = c.erase.ensures ∙ ap (without_record c.args.place.model c.args.place.id) c.in_ok-fewer.ensures in
    subst (IsStart (script_of c.args.t.now)) (sym same)
    (start-without (script_of c.args.t.now) c.requires.script c.args.base.now (real-start (script_of c.args.t.now) (over (witness_data c.args.w.now) c.args.base.now) c.requires.base) c.args.place.model c.args.place.id c.requires.unnamed)

pub returns-then-real : goal.returns-then-real
returns-then-real c =
    let same = c.erase.ensures ∙ ap (without_record c.args.place.model c.args.place.id) c.in_ok-fewer.ensures in
    (same, c.requires.there, c.in_ok-real.ensures.0 c.if-real.true)

pub returns-else-real : goal.returns-else-real
returns-else-real c =
    let same = c.erase.ensures ∙ ap (without_record c.args.place.model c.args.place.id) c.in_ok-fewer.ensures in
    λ there fewer.
    let yes = c.in_ok-real.ensures.1 (subst (λ (b : Database). IsReal (script_of c.args.t.now) (over (witness_data c.args.w.now) b)) (sym same) fewer) in
    let no = c.if-real.false in
    absurd cc
