-- The elements that a consistent table names.
use Rattle.std.proofs.Common.{◌≡◌, ℕ, ◌<◌, inl, inr, Bool, true, false, refl, sym, ◌∙◌, List, [], Some, None, Option, length, ap, subst, arith, slice_get, Contains}
use Rattle.std.specs.Prelude.{option_and_then, is_some, ◌==◌, max, unwrap_or}
use Rattle.std.specs.List.{flat_map}
use Rattle.std.specs.Option.{option_map, option_to_list}
use Rattle.std.proofs.lemmas.Bool.{eqb-true, cases_lt}
use Rattle.std.proofs.lemmas.List.{get_or_past}
use Rattle.std.proofs.lemmas.List.FromFn.{get_or-map-range_with_len, length-map-range_with_len}
use Rattle.form_formula.specs.declared.structure.Range.{Range}
use Rattle.form_formula.specs.declared.structure.Range.TheVariants as kinds
use Rattle.form_formula.specs.declared.structure.FunSig.{FunSig}
use Rattle.form_formula.specs.declared.structure.Signature.{Signature}
use Rattle.form_formula.specs.declared.structure.SVal.{SVal}
use Rattle.form_formula.specs.declared.structure.SVal.TheVariants.{Rec, Flag, Num, Str}
use Rattle.form_formula.specs.Over.{IsOver}
use Rattle.form_formula.specs.Trees.{Formula}
use Rattle.form_formula.specs.Truth.{element_of, size_of}
use Rattle.form_terms.specs.GroundTerms.{GroundTerm, constant, skolem, field, sort_of, record_sort, is_number}
use Rattle.form_terms.specs.Parts.{Variable, existential}
use Rattle.std.proofs.lemmas.List.Elements.{Contains-append_left}
use Rattle.form_terms.proofs.Lists.{flat_map-Contains, cond_true, cond_false}
use Rattle.form_terms.proofs.Listed.{to_unique}
use Rattle.form_terms.proofs.CutFacts.{is_the_number}
use Rattle.form_terms.proofs.Typed.{all_typed, target_below, to_option}
use Rattle.form_terms.proofs.Recorded.{needed_below}
use Rattle.form_terms.proofs.Witnesses.{variable_part}
use Rattle.form_tables.specs.Vocabulary.{Vocabulary, IsVocabulary, told}
use Rattle.form_tables.specs.Table.{Table, is_there, IsSame}
use Rattle.form_tables.specs.Consistent.{IsConsistent, IsOfRange, range_of}
use Rattle.form_tables.specs.Made.{class_of, class_in, classes, made_size, place, element, default, made}
use Rattle.form_tables.proofs.Positions.{place_found, place_below}

-- a term of a sort may have elements
pub sorted_range : (g : Signature) (t : GroundTerm) (sort : ℕ) → sort_of g t ≡ Some sort → range_of g t ≡ Some (kinds.Rec sort)
sorted_range g (constant n) sort e = let same : n ≡ sort = cc in ap (λ n. Some (kinds.Rec n)) same
sorted_range g (skolem number n ts) sort e = let same : n ≡ sort = cc in ap (λ n. Some (kinds.Rec n)) same
sorted_range g (field h t) sort e = own (slice_get g.funs h) e
  where
    to : (range : Range) → record_sort range ≡ Some sort → range ≡ kinds.Rec sort
    to (kinds.Rec n) e = let same : n ≡ sort = cc in ap (λ n. kinds.Rec n) same
    to kinds.Flag e = cc
    to kinds.Num e = cc
    to kinds.Str e = cc

    own : (o : Option FunSig) → option_and_then (λ sig. record_sort sig.to) o ≡ Some sort → option_map (λ sig. sig.to) o ≡ Some (kinds.Rec sort)
    own None e = cc
    own (Some sig) e = ap (λ r. Some r) (to sig.to e)

pub from_class : (o : Option SVal) (k : ℕ) → option_and_then element_of o ≡ Some k → o ≡ Some (Rec k)
from_class None k e = cc
from_class (Some (Rec x)) k e = let same : x ≡ k = cc in ap (λ x. Some (Rec x)) same
from_class (Some (Flag b)) k e = cc
from_class (Some (Num n)) k e = cc
from_class (Some (Str t)) k e = cc

pub of_range_class : (sort : ℕ) (w : SVal) → IsOfRange (kinds.Rec sort) w → (k : ℕ) × (w ≡ Rec k)
of_range_class sort (Rec k) h = (k, refl)
of_range_class sort (Flag b) h = absurd h
of_range_class sort (Num n) h = absurd h
of_range_class sort (Str t) h = absurd h

module _ (g : Signature) (f : Formula) (terms : List GroundTerm) (v : Vocabulary) (table : Table)
    (over : IsOver g [] f) (words : IsVocabulary g f terms v) (fits : IsConsistent g v table) where
  abbrev pub class : GroundTerm → Option ℕ
  class t = class_of g v table t

  abbrev pub at : GroundTerm → Option ℕ
  at t = element g v table t

  -- what a told term of a sort has is an element
  pub sort_value : (t : GroundTerm) (sort : ℕ) (w : SVal) → Contains (told v) t → sort_of g t ≡ Some sort → table.value t ≡ Some w → (k : ℕ) × (w ≡ Rec k)
  sort_value t sort w there kind e = of_range_class sort w (fits.typed t (kinds.Rec sort) w there (sorted_range g t sort kind) e)

  pub named_told : (t : GroundTerm) → Contains v.named t → Contains (told v) t
  named_told t there = Contains-append_left v.named v.others t there

  -- a term that names an element is of a sort that is there
  pub sort_below : (t : GroundTerm) (sort : ℕ) → Contains v.named t → sort_of g t ≡ Some sort → sort < g.sorts
  sort_below (constant n) sort there kind =
      let same : n ≡ sort = cc in
      let P : ℕ → Type 0 = λ n. n < g.sorts in
      subst P same (needed_below g f over g.sorts n (words.formed (constant n) there))
  sort_below (skolem number n ts) sort there kind =
      let (above, own, sorts, each) = words.formed (skolem number n ts) there in
      let variable : Variable = record { number = number; sort = n; above = above } in
      let same : n ≡ sort = cc in
      let P : ℕ → Type 0 = λ n. n < g.sorts in
      subst P same (all_typed g f over (existential variable) (variable_part g f variable own)).0
  sort_below (field h t) sort there kind = target_below g h sort kind

  -- the number of an element that a term of a sort has is one of the sort's
  pub class_listed : (t : GroundTerm) (sort k : ℕ) → Contains v.named t → sort_of g t ≡ Some sort → class t ≡ Some k → Contains (classes g v table sort) k
  class_listed t sort k there kind e =
      let kept : class_in g v table sort t ≡ option_to_list (class t) = cond_true (is_number (sort_of g t) sort) _ _ (is_the_number (sort_of g t) sort kind) in
      let P : List ℕ → Type 0 = λ ks. Contains ks k in
      let here : Contains (class_in g v table sort t) k = subst P (sym kept) (to_option (class t) k e) in
      to_unique (λ j k. j == k) (λ j k e. eqb-true j k e) (flat_map (class_in g v table sort) v.named) k (flat_map-Contains (class_in g v table sort) v.named t k there here)

  pub place_at : (sort k : ℕ) → Contains (classes g v table sort) k → slice_get (classes g v table sort) (place g v table sort k) ≡ Some k
  place_at sort k c = place_found (classes g v table sort) k c

  -- places are equal where numbers are
  pub one_class : (sort j k : ℕ) → Contains (classes g v table sort) j → Contains (classes g v table sort) k → place g v table sort j ≡ place g v table sort k → j ≡ k
  one_class sort j k c d e =
      let both : Some j ≡ Some k = sym (place_at sort j c) ∙ (ap (slice_get (classes g v table sort)) e ∙ place_at sort k d) in cc

  pub size_made : (sort : ℕ) → sort < g.sorts → size_of (made g v table) sort ≡ made_size g v table sort
  size_made sort less = get_or-map-range_with_len (made_size g v table) 0 g.sorts sort sort 0 less (omega arith)

  pub size_within : (sort : ℕ) → 0 < size_of (made g v table) sort → sort < g.sorts
  size_within sort some =
      elim (cases_lt sort g.sorts) [
        | inl less ↦ less
        | inr more ↦
            let none : size_of (made g v table) sort ≡ 0 =
            get_or_past (made g v table).sizes sort 0 (omega (arith, length-map-range_with_len (made_size g v table) 0 g.sorts, more)) in
            absurd (omega (arith, none, some))
      ]

  -- a sort is of some size where it is not empty
  pub not_empty : (sort : ℕ) → sort < g.sorts → table.is_empty sort ≡ false → size_of (made g v table) sort ≡ max 1 (length (classes g v table sort))
  not_empty sort less e = size_made sort less ∙ cond_false (table.is_empty sort) _ _ e

  pub empty : (sort : ℕ) → sort < g.sorts → table.is_empty sort ≡ true → size_of (made g v table) sort ≡ 0
  empty sort less e = size_made sort less ∙ cond_true (table.is_empty sort) _ _ e

  pub some_size : (sort : ℕ) → sort < g.sorts → table.is_empty sort ≡ false → 0 < size_of (made g v table) sort
  some_size sort less e = omega (arith, not_empty sort less e)

  pub some_not_empty : (sort : ℕ) → 0 < size_of (made g v table) sort → table.is_empty sort ≡ false
  some_not_empty sort some = choose (table.is_empty sort) refl
    where
      choose : (b : Bool) → table.is_empty sort ≡ b → b ≡ false
      choose false e = refl
      choose true e = absurd (omega (arith, empty sort (size_within sort some) e, some))

  -- each number has a place among the elements
  pub place_within : (sort k : ℕ) → 0 < size_of (made g v table) sort → place g v table sort k < size_of (made g v table) sort
  place_within sort k some =
      omega (arith, not_empty sort (size_within sort some) (some_not_empty sort some), place_below (classes g v table sort) k)

  default_place : (sort : ℕ) (o : Option ℕ) → 0 < size_of (made g v table) sort → unwrap_or (option_map (place g v table sort) o) 0 < size_of (made g v table) sort
  default_place sort None some = some
  default_place sort (Some k) some = place_within sort k some

  pub default_within : (sort : ℕ) → 0 < size_of (made g v table) sort → default g v table sort < size_of (made g v table) sort
  default_within sort some = default_place sort (class (constant sort)) some

  -- what a term names, by its number
  pub at_sort : (t : GroundTerm) (sort : ℕ) → sort_of g t ≡ Some sort → at t ≡ option_map (place g v table sort) (class t)
  at_sort t sort kind = ap (option_and_then (λ sort. option_map (place g v table sort) (class t))) kind

  -- a term that names an element in the structure
  pub record IsAt (t : GroundTerm) (sort x : ℕ) : Type 0 where
    pub number : ℕ
    pub value : table.value t ≡ Some (Rec number)
    pub listed : Contains (classes g v table sort) number
    pub placed : place g v table sort number ≡ x

  pub is_at_place : (t : GroundTerm) (sort x : ℕ) → Contains v.named t → sort_of g t ≡ Some sort → at t ≡ Some x → IsAt t sort x
  is_at_place t sort x there kind e = choose (class t) refl (sym (at_sort t sort kind) ∙ e)
    where
      choose : (o : Option ℕ) → class t ≡ o → option_map (place g v table sort) o ≡ Some x → IsAt t sort x
      choose None p q = cc
      choose (Some k) p q = record { number = k; value = from_class (table.value t) k p; listed = class_listed t sort k there kind p; placed = cc }

  pub at_value : (t : GroundTerm) (sort k : ℕ) → sort_of g t ≡ Some sort → table.value t ≡ Some (Rec k) → at t ≡ Some (place g v table sort k)
  at_value t sort k kind e = at_sort t sort kind ∙ ap (λ o. option_map (place g v table sort) (option_and_then element_of o)) e

  pub at_none : (t : GroundTerm) (sort : ℕ) → sort_of g t ≡ Some sort → table.value t ≡ None → at t ≡ None
  at_none t sort kind e = at_sort t sort kind ∙ ap (λ o. option_map (place g v table sort) (option_and_then element_of o)) e

  -- a term that names an element is there
  pub at_there : (t : GroundTerm) (sort : ℕ) → Contains v.named t → sort_of g t ≡ Some sort → is_there table t ≡ is_some (at t)
  at_there t sort there kind = choose (table.value t) refl
    where
      choose : (o : Option SVal) → table.value t ≡ o → is_some o ≡ is_some (at t)
      choose None e = sym (ap is_some (at_none t sort kind e))
      choose (Some w) e =
          let number = sort_value t sort w (named_told t there) kind e in
          sym (ap is_some (at_value t sort number.0 kind (e ∙ ap (λ w. Some w) number.1)))

  pub at_within : (t : GroundTerm) (sort x : ℕ) → Contains v.named t → sort_of g t ≡ Some sort → at t ≡ Some x → x < size_of (made g v table) sort
  at_within t sort x there kind e =
      let h = is_at_place t sort x there kind e in
      let alive : table.is_empty sort ≡ false = fits.sorts.inhabited t sort (named_told t there) kind (ap is_some h.value) in
      let P : ℕ → Type 0 = λ x. x < size_of (made g v table) sort in
      subst P h.placed (place_within sort h.number (some_size sort (sort_below t sort there kind) alive))

  -- terms of a sort that name one element are the same
  pub one_element : (t u : GroundTerm) (sort x : ℕ) → Contains v.named t → Contains v.named u → sort_of g t ≡ Some sort → sort_of g u ≡ Some sort
      → at t ≡ Some x → at u ≡ Some x → IsSame table t u
  one_element t u sort x a b p q d e =
      let h = is_at_place t sort x a p d in
      let k = is_at_place u sort x b q e in
      let same : k.number ≡ h.number = one_class sort k.number h.number k.listed h.listed (k.placed ∙ sym h.placed) in
      (Rec h.number, h.value, k.value ∙ ap (λ n. Some (Rec n)) same)
