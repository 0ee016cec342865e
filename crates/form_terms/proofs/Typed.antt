-- The terms of a formula over a signature have sorts.
use Rattle.std.proofs.Common.{◌≡◌, ℕ, suc, ◌+◌, ◌^◌, ◌<◌, inl, inr, Bool, true, false, ◌&&◌, refl, sym, ◌∙◌, List, [], ◌∷◌, ◌++◌, Some, None, Option, length, cond, ap, subst, arith, slice_get, Contains, length-append}
use Rattle.std.specs.Prelude.{slice_index_or, option_and_then, is_none, nat_lt}
use Rattle.std.specs.List.{list_all}
use Rattle.std.specs.Option.{option_to_list}
use Rattle.std.proofs.lemmas.Bool.{and_parts}
use Rattle.std.proofs.lemmas.Bool.Decides.{leb_tells}
use Rattle.std.proofs.lemmas.List.{get_or_append_left}
use Rattle.std.proofs.lemmas.List.Elements.{Contains-append_cases, Contains-append_left, Contains-append_right}
use Rattle.std.proofs.lemmas.Option.{slice_get_within, get_or_from_slice_get}
use Rattle.std.proofs.Math.Seq.{get_or-append_seam}
use Rattle.form_formula.proofs.Placement.{slice_get_pushed}
use Rattle.form_formula.specs.declared.structure.Range.{Range}
use Rattle.form_formula.specs.declared.structure.Range.TheVariants as kinds
use Rattle.form_formula.specs.declared.structure.FunSig.{FunSig}
use Rattle.form_formula.specs.declared.structure.Signature.{Signature}
use Rattle.form_formula.specs.Signature.{has_range}
use Rattle.form_formula.specs.Trees.{Term, Formula, yes, no, equal, less, has, flag, present, negation, both, either, exists, forall}
use Rattle.form_formula.specs.Over.{IsFunction, HasRange, IsOver}
use Rattle.form_terms.specs.GroundTerms.{GroundTerm, skolem, no_terms, sort_of, source_of, target_of, record_sort}
use Rattle.form_terms.specs.Parts.{Variable, Part, existential, universal, atom_term, parts, parts_of, quantifiers, name_of, if_element}
use Rattle.form_terms.specs.Universe.{variables_of, variables_in}
use Rattle.form_terms.specs.Listing.{own_names}
use Rattle.form_terms.proofs.Lists.{Contains-head, Contains-tail, Contains-cons_cases, Contains-none, flat_map-Contains, list_all-Contains}

pub less_than : (n m : ℕ) → nat_lt n m ≡ true → n < m
less_than n m e = elim (leb_tells (suc n) m) [ inl p ↦ p.1 | inr p ↦ let no : true ≡ false = sym e ∙ p.0 in cc ]

third : (a b c d : Bool) → (a && b && c && d) ≡ true → c ≡ true
third true true true d e = refl
third true true false d e = e
third true false c d e = cc
third false b c d e = cc

pub from_option : {A : Type 0} (o : Option A) (x : A) → Contains (option_to_list o) x → o ≡ Some x
from_option None x there = Contains-none x there
from_option (Some y) x there = elim (Contains-cons_cases y [] x there) [ inl e ↦ ap (λ z. Some z) e | inr later ↦ Contains-none x later ]

pub to_option : {A : Type 0} (o : Option A) (x : A) → o ≡ Some x → Contains (option_to_list o) x
to_option None x e = cc
to_option {A} (Some y) x e = let same : y ≡ x = cc in let P : A → Type 0 = λ z. Contains (y ∷ []) z in subst P same (Contains-head y [])

module _ (g : Signature) where
  -- the signature's functions go between its sorts
  listed : (sig : FunSig) → Contains g.funs sig → (nat_lt sig.from g.sorts && has_range g.sorts sig.to) ≡ true
  listed sig there =
      let all = third (nat_lt (length g.funs) (2 ^ 32)) (nat_lt (length g.sets) (2 ^ 32)) (list_all (λ f. nat_lt f.from g.sorts && has_range g.sorts f.to) g.funs)
      (list_all (λ r. nat_lt r.from g.sorts && nat_lt r.to g.sorts) g.sets) g.fits in
      list_all-Contains (λ f. nat_lt f.from g.sorts && has_range g.sorts f.to) g.funs sig all there

  signed : (k : ℕ) (sig : FunSig) → IsFunction g k sig → (nat_lt sig.from g.sorts && has_range g.sorts sig.to) ≡ true
  signed k sig there = listed sig (k, slice_get_within g.funs k sig there, get_or_from_slice_get g.funs k sig sig there)

  range_below : (to : ℕ) (range : Range) → has_range g.sorts range ≡ true → record_sort range ≡ Some to → to < g.sorts
  range_below to (kinds.Rec sort) h e = let same : sort ≡ to = cc in let P : ℕ → Type 0 = λ n. n < g.sorts in subst P same (less_than sort g.sorts h)
  range_below to kinds.Flag h e = cc
  range_below to kinds.Num h e = cc
  range_below to kinds.Str h e = cc

  -- what functions give is there
  pub listed_below : (sig : FunSig) (to : ℕ) → Contains g.funs sig → record_sort sig.to ≡ Some to → to < g.sorts
  listed_below sig to there e = range_below to sig.to (and_parts (nat_lt sig.from g.sorts) (has_range g.sorts sig.to) (listed sig there)).1 e

  pub in_element : {A : Type 0} (k : ℕ) (xs : List A) (x : A) → Contains (if_element g k xs) x → (to : ℕ) × (target_of g k ≡ Some to) × Contains xs x
  in_element k xs x there = choose (target_of g k) refl there
    where
      choose : (o : Option ℕ) → target_of g k ≡ o → Contains (cond (is_none o) [] xs) x → (to : ℕ) × (o ≡ Some to) × Contains xs x
      choose None e there = Contains-none x there
      choose (Some to) e there = (to, refl, there)

  pub to_element : {A : Type 0} (k to : ℕ) (xs : List A) (x : A) → target_of g k ≡ Some to → Contains xs x → Contains (if_element g k xs) x
  to_element {A} k to xs x e there =
      let P : Option ℕ → Type 0 = λ o. Contains (cond (is_none o) [] xs) x in subst P (sym e) there

  pub target_at : (k : ℕ) (sig : FunSig) (sort : ℕ) → IsFunction g k sig → sig.to ≡ kinds.Rec sort → target_of g k ≡ Some sort
  target_at k sig sort there to = ap (option_and_then (λ sig. record_sort sig.to)) there ∙ ap record_sort to

  -- a function that gives elements has a source
  pub source_there : (k to : ℕ) → target_of g k ≡ Some to → (from : ℕ) × (source_of g k ≡ Some from)
  source_there k to e = choose (slice_get g.funs k) refl e
    where
      choose : (o : Option FunSig) → slice_get g.funs k ≡ o → option_and_then (λ sig. record_sort sig.to) o ≡ Some to
          → (from : ℕ) × (option_and_then (λ sig. Some sig.from) o ≡ Some from)
      choose None p e = cc
      choose (Some sig) p e = (sig.from, refl)

  pub target_below : (k to : ℕ) → target_of g k ≡ Some to → to < g.sorts
  target_below k to e = choose (slice_get g.funs k) refl e
    where
      choose : (o : Option FunSig) → slice_get g.funs k ≡ o → option_and_then (λ sig. record_sort sig.to) o ≡ Some to → to < g.sorts
      choose None p e = cc
      choose (Some sig) p e = range_below to sig.to (and_parts (nat_lt sig.from g.sorts) (has_range g.sorts sig.to) (signed k sig p)).1 e

  pub source_below : (k from : ℕ) → source_of g k ≡ Some from → from < g.sorts
  source_below k from e = choose (slice_get g.funs k) refl e
    where
      choose : (o : Option FunSig) → slice_get g.funs k ≡ o → option_and_then (λ sig. Some sig.from) o ≡ Some from → from < g.sorts
      choose None p e = cc
      choose (Some sig) p e =
          let same : sig.from ≡ from = cc in
          let P : ℕ → Type 0 = λ n. n < g.sorts in
          subst P same (less_than sig.from g.sorts (and_parts (nat_lt sig.from g.sorts) (has_range g.sorts sig.to) (signed k sig p)).0)

module _ (g : Signature) (f : Formula) where
  -- what stands above: the sorts, which are there, and the ground terms of the variables that are not dependent
  pub record AreNames (scope : List ℕ) (names : List (Option GroundTerm)) : Type 0 where
    pub lengths : length names ≡ length scope
    pub below : (depth sort : ℕ) → slice_get scope depth ≡ Some sort → sort < g.sorts
    pub named : (depth sort : ℕ) → slice_get scope depth ≡ Some sort → (t : GroundTerm) → slice_index_or names depth None ≡ Some t
        → (sort_of g t ≡ Some sort) × Contains (own_names g f) t

  names_more : (scope : List ℕ) (names : List (Option GroundTerm)) (sort : ℕ) (name : Option GroundTerm) → AreNames scope names → sort < g.sorts
      → ((t : GroundTerm) → name ≡ Some t → (sort_of g t ≡ Some sort) × Contains (own_names g f) t)
      → AreNames (scope ++ sort ∷ []) (names ++ name ∷ [])
  names_more scope names sort name at under own = record {
    lengths = omega (arith, length-append names (name ∷ []), length-append scope (sort ∷ []), at.lengths);
    below = λ depth sort' e. elim (slice_get_pushed scope sort depth sort' e) [
      | inl e ↦ at.below depth sort' e
      | inr (d, same) ↦ let P : ℕ → Type 0 = λ n. n < g.sorts in subst P same under
    ];
    named = λ depth sort' e t name_e. elim (slice_get_pushed scope sort depth sort' e) [
      | inl e ↦
          let within : depth < length names = omega (arith, slice_get_within scope depth sort' e, at.lengths) in
          at.named depth sort' e t (sym (get_or_append_left names (name ∷ []) None depth within) ∙ name_e)
      | inr (d, same) ↦
          let depth_names : length names ≡ depth = omega (arith, d, at.lengths) in
          let last : slice_index_or (names ++ name ∷ []) depth None ≡ name =
          ap (λ n. slice_index_or (names ++ name ∷ []) n None) (sym depth_names) ∙ get_or-append_seam names name [] None in
          let h = own t (sym last ∙ name_e) in (h.0 ∙ ap (λ n. Some n) same, h.1)
    ];
  }

  -- the sorts of a part are there
  abbrev pub IsTyped : Part → Type 0
  IsTyped (existential v) = (v.sort < g.sorts) × ((s : ℕ) → Contains v.above s → s < g.sorts)
  IsTyped (universal sort) = sort < g.sorts
  IsTyped (atom_term names t) = (scope : List ℕ) × (range : Range) × HasRange g scope t range × AreNames scope names

  own_name : (number sort : ℕ) (above : List ℕ) → Contains (variables_of g f) (record { number = number; sort = sort; above = above })
      → (t : GroundTerm) → name_of number sort above ≡ Some t → (sort_of g t ≡ Some sort) × Contains (own_names g f) t
  own_name number sort above there t e = (
    sorted above e,
    flat_map-Contains (λ v. option_to_list (name_of v.number v.sort v.above)) (variables_of g f) (record { number = number; sort = sort; above = above }) t there
        (to_option (name_of number sort above) t e),
  )
    where
      sorted : (above : List ℕ) → name_of number sort above ≡ Some t → sort_of g t ≡ Some sort
      sorted [] e = let same : skolem number sort no_terms ≡ t = cc in ap (sort_of g) (sym same)
      sorted (s ∷ above) e = cc

  abbrev Inside : ℕ → List (Option GroundTerm) → List ℕ → Formula → Type 0
  Inside number names above a = (p : Part) → Contains (parts number names above a) p → Contains (parts_of f) p

  one_typed : (scope : List ℕ) (names : List (Option GroundTerm)) (t : Term) (range : Range) → AreNames scope names → HasRange g scope t range
      → (p : Part) → Contains (atom_term names t ∷ []) p → IsTyped p
  one_typed scope names t range at h p there =
      elim (Contains-cons_cases (atom_term names t) [] p there) [
        | inl e ↦ subst IsTyped e (scope, range, h, at)
        | inr later ↦ Contains-none p later
      ]

  two_typed : (scope : List ℕ) (names : List (Option GroundTerm)) (t u : Term) (range kind : Range) → AreNames scope names → HasRange g scope t range → HasRange g scope u kind
      → (p : Part) → Contains (atom_term names t ∷ atom_term names u ∷ []) p → IsTyped p
  two_typed scope names t u range kind at h k p there =
      elim (Contains-cons_cases (atom_term names t) (atom_term names u ∷ []) p there) [
        | inl e ↦ subst IsTyped e (scope, range, h, at)
        | inr later ↦ one_typed scope names u kind at k p later
      ]

  typed : (a : Formula) (number : ℕ) (scope : List ℕ) (names : List (Option GroundTerm)) (above : List ℕ) → IsOver g scope a → AreNames scope names
      → ((s : ℕ) → Contains above s → s < g.sorts) → Inside number names above a → (p : Part) → Contains (parts number names above a) p → IsTyped p
  typed yes number scope names above h at sorts inside p there = Contains-none p there
  typed no number scope names above h at sorts inside p there = Contains-none p there
  typed (equal t u) number scope names above (range, alike, h, k) at sorts inside p there = two_typed scope names t u range range at h k p there
  typed (less t u) number scope names above (h, k) at sorts inside p there = two_typed scope names t u kinds.Num kinds.Num at h k p there
  typed (has r t u) number scope names above (sig, e, h, k) at sorts inside p there = two_typed scope names t u (kinds.Rec sig.from) (kinds.Rec sig.to) at h k p there
  typed (flag k t) number scope names above (sig, e, h, to) at sorts inside p there = one_typed scope names t (kinds.Rec sig.from) at h p there
  typed (present k t) number scope names above (sig, e, h) at sorts inside p there = one_typed scope names t (kinds.Rec sig.from) at h p there
  typed (negation a) number scope names above h at sorts inside p there = typed a number scope names above h at sorts inside p there
  typed (both a b) number scope names above h at sorts inside p there =
      elim (Contains-append_cases (parts number names above a) (parts (number + quantifiers a) names above b) p there) [
        | inl here ↦ typed a number scope names above h.0 at sorts (λ p c. inside p (Contains-append_left _ (parts (number + quantifiers a) names above b) p c)) p here
        | inr here ↦ typed b (number + quantifiers a) scope names above h.1 at sorts (λ p c. inside p (Contains-append_right (parts number names above a) _ p c)) p here
      ]
  typed (either a b) number scope names above h at sorts inside p there =
      elim (Contains-append_cases (parts number names above a) (parts (number + quantifiers a) names above b) p there) [
        | inl here ↦ typed a number scope names above h.0 at sorts (λ p c. inside p (Contains-append_left _ (parts (number + quantifiers a) names above b) p c)) p here
        | inr here ↦ typed b (number + quantifiers a) scope names above h.1 at sorts (λ p c. inside p (Contains-append_right (parts number names above a) _ p c)) p here
      ]
  typed (exists sort a) number scope names above h at sorts inside p there =
      let v : Variable = record { number = number; sort = sort; above = above } in
      let rest : List Part = parts (number + 1) (names ++ name_of number sort above ∷ []) above a in
      let own : Contains (variables_of g f) v =
      flat_map-Contains variables_in (parts_of f) (existential v) v (inside (existential v) (Contains-head (existential v) rest)) (Contains-head v []) in
      elim (Contains-cons_cases (existential v) rest p there) [
        | inl e ↦ subst IsTyped e (h.0, sorts)
        | inr later ↦
            typed a (number + 1) (scope ++ sort ∷ []) (names ++ name_of number sort above ∷ []) above h.1
            (names_more scope names sort (name_of number sort above) at h.0 (own_name number sort above own)) sorts
            (λ p c. inside p (Contains-tail (existential v) rest p c)) p later
      ]
  typed (forall sort a) number scope names above h at sorts inside p there =
      let rest : List Part = parts (number + 1) (names ++ None ∷ []) (above ++ sort ∷ []) a in
      elim (Contains-cons_cases (universal sort) rest p there) [
        | inl e ↦ subst IsTyped e h.0
        | inr later ↦
            typed a (number + 1) (scope ++ sort ∷ []) (names ++ None ∷ []) (above ++ sort ∷ []) h.1
            (names_more scope names sort None at h.0 (λ t e. cc))
            (λ s c. elim (Contains-append_cases above (sort ∷ []) s c) [
              | inl old ↦ sorts s old
              | inr new ↦ elim (Contains-cons_cases sort [] s new) [
                | inl e ↦ let P : ℕ → Type 0 = λ n. n < g.sorts in subst P e h.0
                | inr none ↦ Contains-none s none
              ]
            ])
            (λ p c. inside p (Contains-tail (universal sort) rest p c)) p later
      ]

  pub all_typed : IsOver g [] f → (p : Part) → Contains (parts_of f) p → IsTyped p
  all_typed h = typed f 0 [] [] [] h (record { lengths = refl; below = λ depth sort e. cc; named = λ depth sort e. cc }) (λ s c. Contains-none s c) (λ p c. c)
