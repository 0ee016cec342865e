use Rattle.std.proofs.Common.{◌≡◌, ◌∙◌, ℕ, List, Some, subst, sym}
use Rattle.std.specs.Prelude.{Option, slice_get}
use Rattle.form_formula.specs.declared.structure.SVal.{SVal}
use Rattle.form_terms.specs.GroundTerms.{GroundTerm}
use Rattle.ground_terms.specs.Standing.{terms_at}
use Rattle.ground_problem.specs.declared.words.PairNode.{PairNode}
use Rattle.ground_problem.proofs.AllLaws.{told_ones}
use Rattle.decide_reading.specs.Keys.{HaveValues}
use Rattle.decide_reading.specs.Settled.{AreFunctional, IsPairSettled}
use Rattle.decide_reading.specs.declared.keys.PairKey.{PairKey}
use Rattle.decide_reading.proofs.Functional.{congruent}
use Rattle.decide_reading.proofs.broken.broken_congruences.Goals as goal

pub rivals_among-requires : goal.rivals_among-requires
rivals_among-requires c =
    told_ones c.args.terms.now c.args.words.now.named.items c.args.words.now.others.items c.as_slice.result.now (c.as_slice.ensures.value ∙ c.in_ok-told.ensures) c.requires.named c.requires.others

pub returns-then-are_none-clause-none : goal.returns-then-are_none-clause-none
returns-then-are_none-clause-none c = λ none g table is.
    let P : List ℕ → Type 0 = λ ids. (values : GroundTerm → Option SVal) → HaveValues c.args.terms.now c.args.found.now values → AreFunctional values (terms_at c.args.terms.now ids) in
    let Q : List PairNode → Type 0 = λ ps. (places : PairKey → Option ℕ) × ((k : ℕ) (pair : PairNode) → slice_get ps k ≡ Some pair → IsPairSettled c.args.terms.now c.args.found.now places k pair) in
    congruent c.args.terms.now c.args.words.now c.args.found.now g table is
    (subst P (c.as_slice.ensures.value ∙ c.in_ok-told.ensures) (c.in_ok-rivals.ensures.none (sym c.as_slice-3.ensures.value ∙ c.are_none.ensures.terms c.if-are_none.true)))
    (subst Q c.as_slice-2.ensures.value (c.in_ok-pair_rivals.ensures.none (sym c.as_slice-4.ensures.value ∙ c.are_none.ensures.pairs c.if-are_none.true)))
