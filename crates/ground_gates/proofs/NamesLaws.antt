-- What the tables of variables say stays so.
use Rattle.std.proofs.Common.{◌≡◌, ℕ, zero, suc, ◌+◌, ◌<◌, ◌≤◌, ◌^◌, ◌⊎◌, inl, inr, refl, sym, ◌∙◌, List, [], ◌∷◌, ◌++◌, Option, None, Some, length, ap, subst, arith, slice_get, append-nil, length-append}
use Rattle.std.proofs.Math.ListN.{set, replicate}
use Rattle.std.proofs.lemmas.Option.{slice_get_within, same_Some}
use Rattle.form_formula.proofs.Placement.{slice_get_front, slice_get_last, slice_get_pushed}
use Rattle.form_terms.proofs.Lists.{Contains-cons_cases, Contains-none}
use Rattle.ground_gates.specs.declared.names.Owner.{Owner}
use Rattle.ground_gates.specs.declared.names.Owner.TheVariants.{Gate, Input}
use Rattle.ground_gates.specs.Names.{NamesView, AreNames, HasNoName, IsOnlyName, IsOwnerBelow, IsGateNamed, Grows, taken}

set_here : {A : Type 0} (xs : List A) (k : ℕ) (y : A) → k < length xs → slice_get (set xs k y) k ≡ Some y
set_here [] k y lt = absurd (omega (arith, lt))
set_here (x ∷ xs) zero y lt = refl
set_here (x ∷ xs) (suc k) y lt = set_here xs k y (omega (arith, lt))

set_other : {A : Type 0} (xs : List A) (k i : ℕ) (y : A) → (i ≡ k → ⊥) → slice_get (set xs k y) i ≡ slice_get xs i
set_other [] k i y ne = refl
set_other (x ∷ xs) zero zero y ne = absurd (ne refl)
set_other (x ∷ xs) zero (suc i) y ne = refl
set_other (x ∷ xs) (suc k) zero y ne = refl
set_other (x ∷ xs) (suc k) (suc i) y ne = set_other xs k i y (λ e. ne (ap suc e))

same_or_not : (i k : ℕ) → (i ≡ k) ⊎ (i ≡ k → ⊥)
same_or_not zero zero = inl refl
same_or_not zero (suc k) = inr (λ e. omega (arith, e))
same_or_not (suc i) zero = inr (λ e. omega (arith, e))
same_or_not (suc i) (suc k) = elim (same_or_not i k) [ inl e ↦ inl (ap suc e) | inr ne ↦ inr (λ e. ne (omega (arith, e))) ]

set_cases : {A : Type 0} (xs : List A) (k i : ℕ) (y z : A) → slice_get (set xs k y) i ≡ Some z → (slice_get xs i ≡ Some z) ⊎ ((i ≡ k) × (z ≡ y))
set_cases {A} xs k i y z e =
    elim (same_or_not i k) [
      | inl same ↦
          let P : ℕ → Type 0 = λ i. slice_get (set xs k y) i ≡ Some z in
          let at : slice_get (set xs k y) k ≡ Some z = subst P same e in
          inr (same, sym (same_Some y z (sym (set_here xs k y (within xs k at)) ∙ at)))
      | inr ne ↦ inl (sym (set_other xs k i y ne) ∙ e)
    ]
  where
    within : (xs : List A) (k : ℕ) → slice_get (set xs k y) k ≡ Some z → k < length xs
    within [] k e = cc
    within (x ∷ xs) zero e = omega arith
    within (x ∷ xs) (suc k) e = omega (arith, within xs k e)

abbrev blanks : ℕ → List (Option ℕ)
blanks n = replicate n None

blank : (n k i : ℕ) → slice_get (blanks n) k ≡ Some (Some i) → ⊥
blank zero k i e = cc
blank (suc n) zero i e = cc
blank (suc n) (suc k) i e = blank n k i e

none_taken : (n : ℕ) → taken (blanks n) ≡ 0
none_taken zero = refl
none_taken (suc n) = none_taken n

-- a place more is taken
taken_set : (xs : List (Option ℕ)) (k y : ℕ) → k < length xs → ((n : ℕ) → slice_get xs k ≡ Some (Some n) → ⊥) → taken (set xs k (Some y)) ≡ suc (taken xs)
taken_set [] k y lt none = absurd (omega (arith, lt))
taken_set (None ∷ xs) zero y lt none = refl
taken_set (Some n ∷ xs) zero y lt none = absurd (none n refl)
taken_set (None ∷ xs) (suc k) y lt none = taken_set xs k y (omega (arith, lt)) none
taken_set (Some n ∷ xs) (suc k) y lt none = ap suc (taken_set xs k y (omega (arith, lt)) none)

taken_within : (xs : List (Option ℕ)) → taken xs ≤ length xs
taken_within [] = omega arith
taken_within (None ∷ xs) = omega (arith, taken_within xs)
taken_within (Some n ∷ xs) = omega (arith, taken_within xs)

pub none_named : (base n m : ℕ) → base < 2 ^ 32 → AreNames base [] (replicate n None) (replicate m None)
none_named base n m room = record {
  room = omega (arith, room);
  gate_named = λ k i e. absurd (blank n k i e);
  gate_only = λ k i e. absurd (cc);
  input_named = λ k i e. absurd (blank m k i e);
  input_only = λ k i e. absurd (cc);
  one_each = omega (arith, none_taken n, none_taken m);
}

module _ (base : ℕ) (owners : List Owner) (gates inputs : List (Option ℕ)) (names : AreNames base owners gates inputs) where
  abbrev end : ℕ
  end = length owners

  pub gate_added : (k : ℕ) → base + end + 1 < 2 ^ 32 → k < length gates → ((n : ℕ) → slice_get owners n ≡ Some (Gate k) → ⊥) → AreNames base (owners ++ Gate k ∷ []) (set gates k (Some end)) inputs
  gate_added k room within new = record {
    room = omega (arith, room, length-append owners (Gate k ∷ []));
    gate_named = λ h n e.
        elim (set_cases gates k h (Some end) (Some n) e) [
          | inl before ↦ slice_get_front owners (Gate k ∷ []) n (Gate h) (names.gate_named h n before)
          | inr (same, is) ↦
              let place : n ≡ end = cc in
              let P : ℕ → Type 0 = λ h. slice_get (owners ++ Gate k ∷ []) n ≡ Some (Gate h) in
              let Q : ℕ → Type 0 = λ n. slice_get (owners ++ Gate k ∷ []) n ≡ Some (Gate k) in
              subst P (sym same) (subst Q (sym place) (slice_get_last owners (Gate k)))
        ];
    gate_only = λ h n e.
        elim (slice_get_pushed owners (Gate k) n (Gate h) e) [
          | inl before ↦
              set_other gates k h (Some end) (λ same. let P : ℕ → Type 0 = λ h. slice_get owners n ≡ Some (Gate h) in new n (subst P same before))
              ∙ names.gate_only h n before
          | inr (same, is) ↦
              let own : h ≡ k = cc in
              let P : ℕ → Type 0 = λ h. slice_get (set gates k (Some end)) h ≡ Some (Some n) in
              let Q : ℕ → Type 0 = λ n. slice_get (set gates k (Some end)) k ≡ Some (Some n) in
              subst P (sym own) (subst Q (sym same) (set_here gates k (Some end) within))
        ];
    input_named = λ h n e. slice_get_front owners (Gate k ∷ []) n (Input h) (names.input_named h n e);
    input_only = λ h n e. elim (slice_get_pushed owners (Gate k) n (Input h) e) [ inl before ↦ names.input_only h n before | inr (same, is) ↦ cc ];
    one_each = omega (arith, names.one_each, length-append owners (Gate k ∷ []), taken_set gates k end within (λ n e. new n (names.gate_named k n e)));
  }

  pub input_added : (k : ℕ) → base + end + 1 < 2 ^ 32 → k < length inputs → ((n : ℕ) → slice_get owners n ≡ Some (Input k) → ⊥) → AreNames base (owners ++ Input k ∷ []) gates (set inputs k (Some end))
  input_added k room within new = record {
    room = omega (arith, room, length-append owners (Input k ∷ []));
    gate_named = λ h n e. slice_get_front owners (Input k ∷ []) n (Gate h) (names.gate_named h n e);
    gate_only = λ h n e.
        elim (slice_get_pushed owners (Input k) n (Gate h) e) [
          | inl before ↦ names.gate_only h n before
          | inr (same, is) ↦ cc
        ];
    input_named = λ h n e.
        elim (set_cases inputs k h (Some end) (Some n) e) [
          | inl before ↦ slice_get_front owners (Input k ∷ []) n (Input h) (names.input_named h n before)
          | inr (same, is) ↦
              let place : n ≡ end = cc in
              let P : ℕ → Type 0 = λ h. slice_get (owners ++ Input k ∷ []) n ≡ Some (Input h) in
              let Q : ℕ → Type 0 = λ n. slice_get (owners ++ Input k ∷ []) n ≡ Some (Input k) in
              subst P (sym same) (subst Q (sym place) (slice_get_last owners (Input k)))
        ];
    input_only = λ h n e.
        elim (slice_get_pushed owners (Input k) n (Input h) e) [
          | inl before ↦
              set_other inputs k h (Some end) (λ same. let P : ℕ → Type 0 = λ h. slice_get owners n ≡ Some (Input h) in new n (subst P same before))
              ∙ names.input_only h n before
          | inr (same, is) ↦
              let own : h ≡ k = cc in
              let P : ℕ → Type 0 = λ h. slice_get (set inputs k (Some end)) h ≡ Some (Some n) in
              let Q : ℕ → Type 0 = λ n. slice_get (set inputs k (Some end)) k ≡ Some (Some n) in
              subst P (sym own) (subst Q (sym same) (set_here inputs k (Some end) within))
        ];
    one_each = omega (arith, names.one_each, length-append owners (Input k ∷ []), taken_set inputs k end within (λ n e. new n (names.input_named k n e)));
  }

  -- there are no more variables than gates and inputs
  pub few_named : end ≤ length gates + length inputs
  few_named = omega (arith, names.one_each, taken_within gates, taken_within inputs)

  abbrev view : ℕ → ℕ → NamesView
  view places input_places = record { base = base; owners = owners; places = places; input_places = input_places }

  pub only_name : (p q k n : ℕ) → slice_get gates k ≡ Some (Some n) → IsOnlyName (view p q) (Gate k) (base + n)
  only_name p q k n e = record {
    place = n;
    is = refl;
    here = names.gate_named k n e;
    only = λ m at. same_place m n (names.gate_only k m at) e;
  }
    where
      same_place : (m n : ℕ) → slice_get gates k ≡ Some (Some m) → slice_get gates k ≡ Some (Some n) → m ≡ n
      same_place m n e d = cc

  pub no_input_name : (p q k : ℕ) → ((n : ℕ) → slice_get inputs k ≡ Some (Some n) → ⊥) → HasNoName (view p q) (Input k)
  no_input_name p q k none n at = none n (names.input_only k n at)

  pub no_name : (p q k : ℕ) → ((n : ℕ) → slice_get gates k ≡ Some (Some n) → ⊥) → HasNoName (view p q) (Gate k)
  no_name p q k none n at = none n (names.gate_only k n at)

  pub place_room : (k : Owner) (n : ℕ) → slice_get owners n ≡ Some k → base + n < 2 ^ 32
  place_room k n e = omega (arith, names.room, slice_get_within owners n k e)

module _ (old : NamesView) where
  -- nothing is new
  pub same_grows : (j : ℕ) → Grows j old old
  same_grows j = record { base = refl; places = refl; input_places = refl; more = []; whole = sym (append-nil old.owners); below = λ o c. Contains-none o c }

  pub named_before : (k x : ℕ) → IsOnlyName old (Gate k) x → IsGateNamed k old old x
  named_before k x is = record { grows = λ j lt. same_grows j; inputs = λ n i e. e; is = (is.place, is.is, is.here) }

module _ (k : ℕ) (old new : NamesView) (base : new.base ≡ old.base) (places : new.places ≡ old.places) (input_places : new.input_places ≡ old.input_places) (owners : new.owners ≡ old.owners ++ Gate k ∷ []) where
  pub named_now : IsGateNamed k old new (old.base + length old.owners)
  named_now = record {
    grows = λ j lt. record {
      base = base;
      places = places;
      input_places = input_places;
      more = Gate k ∷ [];
      whole = owners;
      below = λ o c. elim (Contains-cons_cases (Gate k) [] o c) [
        | inl same ↦ let P : Owner → Type 0 = λ o. IsOwnerBelow j o in subst P same lt
        | inr none ↦ Contains-none o none
      ];
    };
    inputs = λ n i e. elim (slice_get_pushed old.owners (Gate k) n (Input i) (ap (λ xs. slice_get xs n) (sym owners) ∙ e)) [ inl before ↦ before | inr (same, is) ↦ cc ];
    is = (length old.owners, ap (λ n. n + length old.owners) (sym base), ap (λ xs. slice_get xs (length old.owners)) owners ∙ slice_get_last old.owners (Gate k));
  }

pub length_set : {A : Type 0} (xs : List A) (k : ℕ) (y : A) → length (set xs k y) ≡ length xs
length_set [] k y = refl
length_set (x ∷ xs) zero y = refl
length_set (x ∷ xs) (suc k) y = ap suc (length_set xs k y)

pub length_blank : (n : ℕ) → length (blanks n) ≡ n
length_blank zero = refl
length_blank (suc n) = ap suc (length_blank n)
