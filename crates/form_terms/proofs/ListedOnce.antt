-- The list of the terms that arise within so many rounds has each once.
use Rattle.std.proofs.Common.{◌≡◌, ℕ, zero, suc, inl, inr, true, false, not, refl, sym, ◌∙◌, List, [], ◌∷◌, ◌++◌, Some, None, Option, ap, subst, Contains, map}
use Rattle.std.specs.Prelude.{◌==◌}
use Rattle.std.specs.List.{list_any, filter, range_with_len}
use Rattle.std.proofs.lemmas.List.Elements.{Contains-append_cases}
use Rattle.form_formula.specs.declared.structure.Signature.{Signature}
use Rattle.form_formula.specs.Trees.{Formula}
use Rattle.form_formula.specs.Over.{IsOver}
use Rattle.form_terms.specs.GroundTerms.{GroundTerm, GroundTerms, constant, skolem, field, no_terms, term_and, sort_of, source_of, is_number}
use Rattle.form_terms.specs.Parts.{Variable}
use Rattle.form_terms.specs.Universe.{variables_of, terms_of, functions_of, is_needed, IsFirstTerm, HaveSorts}
use Rattle.form_terms.specs.Listing.{HasNoRepeats, is_same_term, unique, of_sort, own_names, first_terms, functions, is_plain, is_skolem, skolem_variables, arguments, of_source, field_terms, skolem_terms, terms_after}
use Rattle.form_terms.proofs.Lists.{Contains-none, Contains-flat_map}
use Rattle.form_terms.proofs.Kept.{list_any-from, nat_same}
use Rattle.form_terms.proofs.Listed.{same_itself, from_unique, in_filter, in_map}
use Rattle.form_terms.proofs.Repeats.{filter-HasNoRepeats}
use Rattle.form_terms.proofs.Once.{append-HasNoRepeats, map-HasNoRepeats, flat_map-HasNoRepeats, map_filter-HasNoRepeats, unique-HasNoRepeats, range-HasNoRepeats}
use Rattle.form_terms.proofs.Numbers.{variables_once}
use Rattle.form_terms.proofs.Stages.{in_arguments, listed_first, no_constant, Plain}

-- the function or the variable that stands outermost
abbrev outermost : GroundTerm → ℕ
outermost (constant sort) = sort
outermost (skolem number sort ts) = number
outermost (field h t) = h

abbrev first_argument : GroundTerms → Option GroundTerm
first_argument no_terms = None
first_argument (term_and t ts) = Some t

module _ (g : Signature) (f : Formula) (over : IsOver g [] f) where
  arguments_once : (terms : List GroundTerm) → HasNoRepeats terms → (above : List ℕ) → HasNoRepeats (arguments g f terms above)
  arguments_once terms h [] = ((λ c. Contains-none no_terms c), tt)
  arguments_once terms h (s ∷ above) =
      flat_map-HasNoRepeats (λ t. map (term_and t) (arguments g f terms above)) (λ t. Some t) first_argument (of_sort g f s terms)
      (map-HasNoRepeats (λ t. Some t) (λ x y e. cc) (of_sort g f s terms) (filter-HasNoRepeats (λ t. is_number (sort_of g t) s) terms h))
      (λ t c. map-HasNoRepeats (term_and t) (λ x y e. cc) (arguments g f terms above) (arguments_once terms h above))
      (λ t ts c d. let part = in_map (term_and t) (arguments g f terms above) ts d in ap first_argument (sym part.2))

  source_once : (terms : List GroundTerm) → HasNoRepeats terms → (o : Option ℕ) → HasNoRepeats (of_source g f terms o)
  source_once terms h None = tt
  source_once terms h (Some s) = filter-HasNoRepeats (λ t. is_number (sort_of g t) s) terms h

  same_map : {A : Type 0} (xs : List A) → map (λ x. x) xs ≡ xs
  same_map [] = refl
  same_map (x ∷ xs) = ap (λ xs. x ∷ xs) (same_map xs)

  fields_once : (terms : List GroundTerm) → HasNoRepeats terms → HasNoRepeats (field_terms g f terms)
  fields_once terms h =
      let P : List ℕ → Type 0 = λ xs. HasNoRepeats xs in
      flat_map-HasNoRepeats (λ k. map (field k) (of_source g f terms (source_of g k))) (λ k. k) outermost (functions g f)
      (subst P (sym (same_map (functions g f))) (unique-HasNoRepeats (λ h k. h == k) nat_same (functions_of g f)))
      (λ k c. map-HasNoRepeats (field k) (λ x y e. cc) (of_source g f terms (source_of g k)) (source_once terms h (source_of g k)))
      (λ k t c d. let part = in_map (field k) (of_source g f terms (source_of g k)) t d in ap outermost (sym part.2))

  skolems_once : (terms : List GroundTerm) → HasNoRepeats terms → HasNoRepeats (skolem_terms g f terms)
  skolems_once terms h =
      flat_map-HasNoRepeats (λ v. map (skolem v.number v.sort) (arguments g f terms v.above)) (λ v. v.number) outermost (skolem_variables g f)
      (map_filter-HasNoRepeats (λ v. v.number) (λ v. is_skolem g f v.above) (variables_of g f) (variables_once g f))
      (λ v c. map-HasNoRepeats (skolem v.number v.sort) (λ x y e. cc) (arguments g f terms v.above) (arguments_once terms h v.above))
      (λ v t c d. let part = in_map (skolem v.number v.sort) (arguments g f terms v.above) t d in ap outermost (sym part.2))

  first_once : HasNoRepeats (first_terms g f)
  first_once =
      append-HasNoRepeats (map constant (filter (is_needed g f) (range_with_len 0 g.sorts))) (unique is_same_term (own_names g f ++ terms_of g f))
      (map-HasNoRepeats constant (λ x y e. cc) (filter (is_needed g f) (range_with_len 0 g.sorts))
      (filter-HasNoRepeats (is_needed g f) (range_with_len 0 g.sorts) (range-HasNoRepeats 0 g.sorts)))
      (unique-HasNoRepeats is_same_term same_itself (own_names g f ++ terms_of g f))
      (λ t c d.
      let part = in_map constant (filter (is_needed g f) (range_with_len 0 g.sorts)) t c in
      let P : GroundTerm → Type 0 = λ t. Contains (own_names g f ++ terms_of g f) t in
      no_constant g f over part.0 (subst P (sym part.2) (from_unique is_same_term (own_names g f ++ terms_of g f) t d)))

  -- a field term is not plain
  not_plain : (terms : List GroundTerm) (t : GroundTerm) → Contains (Plain g f over) t → Contains (field_terms g f terms) t → ⊥
  not_plain terms t c d =
      let plain = (in_filter (is_plain g f) (first_terms g f) t c).1 in
      let found = Contains-flat_map (λ k. map (field k) (of_source g f terms (source_of g k))) (functions g f) t d in
      let part = in_map (field found.0) (of_source g f terms (source_of g found.0)) t found.2 in
      let used : list_any (λ k. k == found.0) (functions g f) ≡ true = list_any-from (λ k. k == found.0) (functions g f) found.0 found.1 (nat_same found.0) in
      let test : is_plain g f t ≡ false = ap (is_plain g f) (sym part.2) ∙ ap not used in
      let no' : true ≡ false = sym plain ∙ test in cc

  -- a Skolem variable at arguments is none of the first terms
  not_first : (terms : List GroundTerm) (t : GroundTerm) → Contains (Plain g f over) t → Contains (skolem_terms g f terms) t → ⊥
  not_first terms t c d =
      let first = listed_first g f over t (in_filter (is_plain g f) (first_terms g f) t c).0 in
      let found = Contains-flat_map (λ v. map (skolem v.number v.sort) (arguments g f terms v.above)) (skolem_variables g f) t d in
      let v : Variable = found.0 in
      let part = in_map (skolem v.number v.sort) (arguments g f terms v.above) t found.2 in
      let own = (in_filter (λ v. is_skolem g f v.above) (variables_of g f) v found.1).1 in
      let sorts = (in_arguments g f over terms v.above part.0 part.1).0 in
      let P : GroundTerm → Type 0 = λ t. IsFirstTerm g f t in
      let here : IsFirstTerm g f (skolem v.number v.sort part.0) = subst P (sym part.2) first in
      let Q : GroundTerms → Type 0 = λ ts. HaveSorts g ts v.above in
      no_sorts v.above own (subst Q here.0 sorts)
    where
      no_sorts : (above : List ℕ) → is_skolem g f above ≡ true → HaveSorts g no_terms above → ⊥
      no_sorts [] own sorts = cc
      no_sorts (s ∷ above) own sorts = sorts

  not_both : (terms : List GroundTerm) (t : GroundTerm) → Contains (field_terms g f terms) t → Contains (skolem_terms g f terms) t → ⊥
  not_both terms t c d =
      let left = Contains-flat_map (λ k. map (field k) (of_source g f terms (source_of g k))) (functions g f) t c in
      let a = in_map (field left.0) (of_source g f terms (source_of g left.0)) t left.2 in
      let right = Contains-flat_map (λ v. map (skolem v.number v.sort) (arguments g f terms v.above)) (skolem_variables g f) t d in
      let b = in_map (skolem right.0.number right.0.sort) (arguments g f terms right.0.above) t right.2 in
      let same : field left.0 a.0 ≡ skolem right.0.number right.0.sort b.0 = a.2 ∙ sym b.2 in cc

  pub terms_once : (n : ℕ) → HasNoRepeats (terms_after g f n)
  terms_once zero = first_once
  terms_once (suc n) =
      let terms : List GroundTerm = terms_after g f n in
      let before = terms_once n in
      append-HasNoRepeats (Plain g f over) (field_terms g f terms ++ skolem_terms g f terms) (filter-HasNoRepeats (is_plain g f) (first_terms g f) first_once)
      (append-HasNoRepeats (field_terms g f terms) (skolem_terms g f terms) (fields_once terms before) (skolems_once terms before) (not_both terms))
      (λ t c d. elim (Contains-append_cases (field_terms g f terms) (skolem_terms g f terms) t d) [
        | inl here ↦ not_plain terms t c here
        | inr there ↦ not_first terms t c there
      ])
