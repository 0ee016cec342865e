-- Each element of the structure of a consistent table is named by a term, or is the default of its sort.
use Rattle.std.proofs.Common.{◌≡◌, ℕ, ◌<◌, inl, inr, Bool, true, false, refl, ◌∙◌, List, [], Some, length, cond, ap, arith, slice_get, Contains}
use Rattle.std.specs.Prelude.{◌==◌, slice_index_or, nat_lt}
use Rattle.std.specs.List.{flat_map}
use Rattle.std.specs.Option.{option_map, option_or, option_to_list}
use Rattle.std.proofs.lemmas.Bool.{cases_lt}
use Rattle.std.proofs.lemmas.List.Elements.{Contains-get_or}
use Rattle.std.proofs.lemmas.Option.{slice_get-get_or}
use Rattle.form_formula.specs.declared.structure.Signature.{Signature}
use Rattle.form_formula.specs.declared.structure.Structure.{Structure}
use Rattle.form_formula.specs.Over.{IsOver}
use Rattle.form_formula.specs.Trees.{Formula}
use Rattle.form_formula.specs.Truth.{elements, size_of}
use Rattle.form_terms.specs.GroundTerms.{GroundTerm, sort_of, is_number}
use Rattle.form_terms.specs.Listing.{HasNoRepeats}
use Rattle.form_terms.specs.Passing.{Choice, IsNamed}
use Rattle.form_terms.specs.Cut.{IsNamedThroughout}
use Rattle.form_terms.proofs.Lists.{Contains-none, Contains-flat_map, cond_true}
use Rattle.form_terms.proofs.Kept.{nat_same}
use Rattle.form_terms.proofs.CutFacts.{number_is}
use Rattle.form_terms.proofs.Listed.{from_unique}
use Rattle.form_terms.proofs.Once.{unique-HasNoRepeats}
use Rattle.form_terms.proofs.Typed.{from_option}
use Rattle.form_tables.specs.Vocabulary.{Vocabulary, IsVocabulary}
use Rattle.form_tables.specs.Table.{Table}
use Rattle.form_tables.specs.Consistent.{IsConsistent}
use Rattle.form_tables.specs.Made.{class_of, class_in, classes, place, default, made, made_choice}
use Rattle.form_tables.proofs.Positions.{place_of_get, below}
use Rattle.form_tables.proofs.Classes.{at_sort, not_empty, size_within, some_not_empty, default_within}
use Rattle.form_tables.proofs.MadeValues.{element_made}

module _ (g : Signature) (f : Formula) (terms : List GroundTerm) (v : Vocabulary) (table : Table)
    (over : IsOver g [] f) (words : IsVocabulary g f terms v) (fits : IsConsistent g v table) where
  abbrev new : Structure
  new = made g v table

  abbrev choice : Choice
  choice = made_choice g v table

  once : (sort : ℕ) → HasNoRepeats (classes g v table sort)
  once sort = unique-HasNoRepeats (λ j k. j == k) (λ j. nat_same j) (flat_map (class_in g v table sort) v.named)

  -- the term that has the number
  in_class : (sort k : ℕ) (t : GroundTerm) → Contains (class_in g v table sort t) k → (sort_of g t ≡ Some sort) × (class_of g v table t ≡ Some k)
  in_class sort k t c = choose (is_number (sort_of g t) sort) refl c
    where
      choose : (b : Bool) → is_number (sort_of g t) sort ≡ b → Contains (cond b (option_to_list (class_of g v table t)) []) k
          → (sort_of g t ≡ Some sort) × (class_of g v table t ≡ Some k)
      choose true e c = (number_is (sort_of g t) sort e, from_option (class_of g v table t) k c)
      choose false e c = Contains-none k c

  module _ (within_terms : (t : GroundTerm) → Contains v.named t → Contains terms t) where
    named_element : (sort x : ℕ) → x < length (classes g v table sort) → IsNamed g new choice (Contains terms) sort x
    named_element sort x less =
        let ks : List ℕ = classes g v table sort in
        let k : ℕ = slice_index_or ks x 0 in
        let listed : Contains ks k = Contains-get_or ks x 0 less in
        let (t, named, here) = Contains-flat_map (class_in g v table sort) v.named k
        (from_unique (λ j k. j == k) (flat_map (class_in g v table sort) v.named) k listed) in
        let (kind, number) = in_class sort k t here in
        let spot : place g v table sort k ≡ x = place_of_get ks x k (once sort) listed (slice_get-get_or ks x 0 less) in
        let at = at_sort g f terms v table over words fits t sort kind ∙ (ap (option_map (place g v table sort)) number ∙ ap (λ x. Some x) spot) in
        (t, within_terms t named, kind, element_made g f terms v table over words fits t named ∙ at)

    pub throughout : IsNamedThroughout g new choice terms
    throughout sort x within =
        let some : 0 < size_of new sort = omega (arith, within) in
        let size = not_empty g f terms v table over words fits sort (size_within g f terms v table over words fits sort some)
        (some_not_empty g f terms v table over words fits sort some) in
        elim (cases_lt x (length (classes g v table sort))) [
          | inl less ↦ inl (named_element sort x less)
          | inr more ↦
              let first : default g v table sort ≡ x = omega (arith, default_within g f terms v table over words fits sort some, size, within, more) in
              let constant : choice.constant sort ≡ Some (default g v table sort) = cond_true (nat_lt 0 (size_of new sort)) _ _ (below 0 (size_of new sort) some) in
              inr (ap (λ o. option_or o (slice_get (elements new sort) 0)) constant ∙ ap (λ x. Some x) first)
        ]
