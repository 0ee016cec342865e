-- The counts of the terms are the lengths of their lists.
use Rattle.std.proofs.Common.{◌≡◌, ℕ, zero, suc, ◌<◌, inl, inr, true, refl, sym, ◌∙◌, List, [], Some, length, ap, Contains}
use Rattle.form_formula.specs.declared.structure.Signature.{Signature}
use Rattle.form_formula.specs.Trees.{Formula}
use Rattle.form_formula.specs.Over.{IsOver}
use Rattle.form_terms.specs.GroundTerms.{GroundTerm, constant, skolem, field, sort_of, target_of, is_number}
use Rattle.form_terms.specs.Parts.{Variable, existential}
use Rattle.form_terms.specs.Universe.{variables_of, IsFirstTerm, IsAppliedTo, ArisesWithin, IsHerbrandTerm}
use Rattle.form_terms.specs.Listing.{Lists, of_sort, terms_after, herbrand_terms}
use Rattle.form_terms.specs.Counts.{count_after, terms_counted}
use Rattle.form_strata.specs.SortGraph.{IsStratified}
use Rattle.form_terms.proofs.Listed.{in_filter, to_filter}
use Rattle.form_terms.proofs.Repeats.{filter-HasNoRepeats}
use Rattle.form_terms.proofs.Typed.{all_typed, target_below}
use Rattle.form_terms.proofs.Recorded.{terms_made, needed_below, functions_there}
use Rattle.form_terms.proofs.Witnesses.{variable_part}
use Rattle.form_terms.proofs.Stages.{arises_listed, listed_arises, no_field}
use Rattle.form_terms.proofs.ListedOnce.{terms_once}
use Rattle.form_terms.proofs.Counted.{counted_sort, counted_terms}
use Rattle.form_terms.proofs.SameLength.{same_length}
use Rattle.form_terms.proofs.Walks.{settled}
use Rattle.form_terms.proofs.Stratified.{herbrand_listed, listed_herbrand, arises_later}

module _ (g : Signature) (f : Formula) (over : IsOver g [] f) where
  abbrev IsSorted : GroundTerm → Type 0
  IsSorted t = (s : ℕ) × (sort_of g t ≡ Some s) × (s < g.sorts)

  variable_below : (number sort : ℕ) (above : List ℕ) → Contains (variables_of g f) (record { number = number; sort = sort; above = above }) → sort < g.sorts
  variable_below number sort above own =
      let v : Variable = record { number = number; sort = sort; above = above } in
      let fits = all_typed g f over (existential v) (variable_part g f v own) in fits.0

  first_sorted : (t : GroundTerm) → IsFirstTerm g f t → IsSorted t
  first_sorted (constant sort) h = (sort, refl, needed_below g f over g.sorts sort h)
  first_sorted (skolem number sort ts) h = (sort, refl, variable_below number sort [] h.1)
  first_sorted (field k t) h =
      elim (terms_made g f over (field k t) h) [
        | inl own ↦ no_field g f over own
        | inr (j, w, e, source, among, target) ↦
            let same : j ≡ k = cc in
            let there : target_of g k ≡ Some target.0 = ap (target_of g) (sym same) ∙ target.1 in
            (target.0, there, target_below g k target.0 there)
      ]

  applied_sorted : (P : GroundTerm → Type 0) (t : GroundTerm) → IsAppliedTo g f P t → IsSorted t
  applied_sorted P (constant sort) a = absurd a
  applied_sorted P (skolem number sort ts) (above, own, sorts, each) = (sort, refl, variable_below number sort above own)
  applied_sorted P (field k t) (used, source, there) =
      let target = functions_there g f k used in (target.0, target.1, target_below g k target.0 target.1)

  sorted : (n : ℕ) (t : GroundTerm) → ArisesWithin g f n t → IsSorted t
  sorted zero t h = first_sorted t h
  sorted (suc n) t (inl first) = first_sorted t first
  sorted (suc n) t (inr applied) = applied_sorted (ArisesWithin g f n) t applied

  pub lists_within : (n : ℕ) → Lists (ArisesWithin g f n) (terms_after g f n)
  lists_within n = record { all = arises_listed g f over n; only = listed_arises g f over n; once = terms_once g f over n }

  pub within_counted : (n : ℕ) (terms : List GroundTerm) → Lists (ArisesWithin g f n) terms → length terms ≡ terms_counted g f n
  within_counted n terms h =
      same_length (ArisesWithin g f n) terms (terms_after g f n) h (lists_within n)
      ∙ counted_terms g f n (λ t c. sorted n t (listed_arises g f over n t c))

  -- the terms of a sort
  abbrev IsOfSort : (GroundTerm → Type 0) → ℕ → GroundTerm → Type 0
  IsOfSort P sort t = P t × (is_number (sort_of g t) sort ≡ true)

  lists_sort : (P : GroundTerm → Type 0) (terms : List GroundTerm) (sort : ℕ) → Lists P terms → Lists (IsOfSort P sort) (of_sort g f sort terms)
  lists_sort P terms sort h = record {
    all = λ t own. to_filter (λ t. is_number (sort_of g t) sort) terms t (h.all t own.0) own.1;
    only = λ t c. let own = in_filter (λ t. is_number (sort_of g t) sort) terms t c in (h.only t own.0, own.1);
    once = filter-HasNoRepeats (λ t. is_number (sort_of g t) sort) terms h.once;
  }

  pub sort_counted : (n sort : ℕ) (terms : List GroundTerm) → Lists (ArisesWithin g f n) terms → length (of_sort g f sort terms) ≡ count_after g f n sort
  sort_counted n sort terms h =
      same_length (IsOfSort (ArisesWithin g f n) sort) (of_sort g f sort terms) (of_sort g f sort (terms_after g f n))
      (lists_sort (ArisesWithin g f n) terms sort h) (lists_sort (ArisesWithin g f n) (terms_after g f n) sort (lists_within n))
      ∙ counted_sort g f n sort

  module _ (stratified : IsStratified g f) where
    pub lists_herbrand : Lists (IsHerbrandTerm g f) (herbrand_terms g f)
    lists_herbrand = record { all = herbrand_listed g f over stratified; only = listed_herbrand g f over stratified; once = terms_once g f over g.sorts }

    pub herbrand_counted : (terms : List GroundTerm) → Lists (IsHerbrandTerm g f) terms → length terms ≡ terms_counted g f g.sorts
    herbrand_counted terms h =
        same_length (IsHerbrandTerm g f) terms (herbrand_terms g f) h lists_herbrand ∙ within_counted g.sorts (herbrand_terms g f) (lists_within g.sorts)

    pub herbrand_sort_counted : (sort : ℕ) (terms : List GroundTerm) → Lists (IsHerbrandTerm g f) terms → length (of_sort g f sort terms) ≡ count_after g f g.sorts sort
    herbrand_sort_counted sort terms h =
        same_length (IsOfSort (IsHerbrandTerm g f) sort) (of_sort g f sort terms) (of_sort g f sort (herbrand_terms g f))
        (lists_sort (IsHerbrandTerm g f) terms sort h) (lists_sort (IsHerbrandTerm g f) (herbrand_terms g f) sort lists_herbrand)
        ∙ counted_sort g f g.sorts sort

    -- one round more adds none
    pub counts_settled : (sort : ℕ) → count_after g f (suc g.sorts) sort ≡ count_after g f g.sorts sort
    counts_settled sort =
        let again : Lists (ArisesWithin g f g.sorts) (terms_after g f (suc g.sorts)) = record {
          all = λ t h. arises_listed g f over (suc g.sorts) t (arises_later g f over g.sorts t h);
          only = λ t c. settled g f over stratified t (listed_arises g f over (suc g.sorts) t c);
          once = terms_once g f over (suc g.sorts);
        } in
        sym (counted_sort g f (suc g.sorts) sort) ∙ sort_counted g.sorts sort (terms_after g f (suc g.sorts)) again
