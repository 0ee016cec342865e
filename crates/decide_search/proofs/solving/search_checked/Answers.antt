use Rattle.std.proofs.Common.{◌∙◌, ◌+◌, ◌<◌, ◌≢◌, ℕ, List, All, subst, sym}
use Rattle.std.specs.Prelude.{AllPairs}
use Rattle.decide_search.proofs.Fixed.{fixed_in, fixed_once}
use Rattle.decide_search.proofs.solving.search_checked.Goals as goal

pub search_mixed-requires-clause-fixed_in : goal.search_mixed-requires-clause-fixed_in
search_mixed-requires-clause-fixed_in c =
    let P : List ℕ → Type 0 = λ fs. All (λ f. f < c.args.terms + c.args.texts) fs in subst P (sym (c.as_slice.ensures.value ∙ c.in_ok-fixed.ensures)) (fixed_in c.args.terms c.args.texts)

pub search_mixed-requires-clause-fixed_once : goal.search_mixed-requires-clause-fixed_once
search_mixed-requires-clause-fixed_once c = let P : List ℕ → Type 0 = λ fs. AllPairs (λ f h. f ≢ h) fs in subst P (sym (c.as_slice.ensures.value ∙ c.in_ok-fixed.ensures)) (fixed_once c.args.terms c.args.texts)
