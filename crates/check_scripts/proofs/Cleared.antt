-- Obligations that are cleared one after another.
use Rattle.std.proofs.Common.{◌≡◌, ℕ, zero, suc, take, ◌+◌, ◌<◌, ◌≤◌, List, [], ◌∷◌, ◌⊎◌, Bool, true, false, refl, length, get_or, arith, sym, ap, ◌∙◌, subst, inl, inr}
use Rattle.std.specs.Prelude.{Option, Some, None, slice_get, Contains, MatchOption}
use Rattle.std.specs.List.{AllByRecursion}
use Rattle.std.proofs.Math.Dec.{ltb}
use Rattle.std.proofs.lemmas.Bool.{ltb-true, ltb-false}
use Rattle.std.proofs.lemmas.Option.{slice_get_within, slice_get-get_or}
use Rattle.type_schema.specs.Script.{Script}
use Rattle.data_meaning.specs.Values.{last_id}
use Rattle.form_formula.specs.declared.structure.Signature.{Signature}
use Rattle.duty_meaning.specs.declared.duty.Duty.{Duty}
use Rattle.duty_meaning.specs.Duties.{obligations_of}
use Rattle.duty_meaning.specs.Over.{IsSignatureOf}
use Rattle.check_scripts.specs.Outcomes.{Outcome, accepted, leak, undecided, too_large, IsCleared, IsUnsettled, IsOutcome}

Contains-slice_get : {A : Type 0} (xs : List A) (x : A) → Contains xs x → (k : ℕ) × (slice_get xs k ≡ Some x)
Contains-slice_get xs x h = (h.0, slice_get-get_or xs h.0 x h.1 ∙ ap (λ y. Some y) h.2)

-- the first obligations, so many, are cleared
abbrev pub AreCleared : Script → Signature → ℕ → Type 0
AreCleared t g n = (k : ℕ) (before : Duty) → k < n → slice_get (obligations_of t) k ≡ Some before → IsCleared t g before

nat-split : (k n : ℕ) → k < suc n → (k < n) ⊎ (k ≡ n)
nat-split k n less =
    elim (ltb k n) as (λ (b : Bool). ltb k n ≡ b → (k < n) ⊎ (k ≡ n)) [
      | true ↦ λ e. inl (ltb-true k n e)
      | false ↦ λ e. let above = ltb-false k n e in inr (omega (arith, above, less))
    ] refl

pub none_cleared : (t : Script) (g : Signature) → AreCleared t g 0
none_cleared t g k before less e = absurd (omega (arith, less))

pub one_more : (t : Script) (g : Signature) (n : ℕ) (duty : Duty) → AreCleared t g n → slice_get (obligations_of t) n ≡ Some duty
    → IsCleared t g duty → AreCleared t g (n + 1)
one_more t g n duty cleared at here k before less e =
    elim (nat-split k n (omega (arith, less))) [
      | inl earlier ↦ cleared k before earlier e
      | inr same ↦
          let one : Some duty ≡ Some before = sym at ∙ ap (slice_get (obligations_of t)) (sym same) ∙ e in
          let equal : duty ≡ before = cc in
          subst (λ (x : Duty). IsCleared t g x) equal here
    ]

-- sizes that fit, up to a place
pub one_more_fits : (sizes : List ℕ) (n : ℕ) (d : ℕ) → n < length sizes → AllByRecursion (λ k. k ≤ last_id) (take n sizes) → get_or sizes n d ≤ last_id
    → AllByRecursion (λ k. k ≤ last_id) (take (n + 1) sizes)
one_more_fits [] n d less all fits = absurd (omega (arith, less))
one_more_fits (x ∷ sizes) zero d less all fits = (fits, tt)
one_more_fits (x ∷ sizes) (suc n) d less all fits =
    let same : suc n + 1 ≡ suc (n + 1) = omega arith in
    rw same (all.0, one_more_fits sizes n d (omega (arith, less)) all.1 fits)

-- the first obligation that is not cleared settles the script
pub first_settles : (t : Script) (g : Signature) → IsSignatureOf t.start g → (n : ℕ) (duty : Duty) (outcome : Outcome) → AreCleared t g n
    → slice_get (obligations_of t) n ≡ Some duty → IsUnsettled t g duty outcome → IsOutcome t outcome
first_settles t g of n duty (accepted k) cleared at h = absurd h
first_settles t g of n duty (leak w) cleared at h =
    record { signature = g; signature_of = of; over = record { duty = duty; due = record { place = n; at = at; cleared = cleared }; unsettled = h } }
first_settles t g of n duty (undecided d cycle) cleared at h =
    record { signature = g; signature_of = of; over = record { duty = duty; due = record { place = n; at = at; cleared = cleared }; unsettled = h } }
first_settles t g of n duty (too_large d terms nodes) cleared at h =
    record { signature = g; signature_of = of; over = record { duty = duty; due = record { place = n; at = at; cleared = cleared }; unsettled = h } }

-- where all are cleared the script is accepted
pub all_accept : (t : Script) (g : Signature) → IsSignatureOf t.start g → (n : ℕ) → n ≡ length (obligations_of t) → AreCleared t g n → IsOutcome t (accepted n)
all_accept t g of n same cleared = record {
  signature = g;
  signature_of = of;
  over = (
    same,
    λ duty listed.
        let place = Contains-slice_get (obligations_of t) duty listed in
        cleared place.0 duty (omega (arith, same, slice_get_within (obligations_of t) place.0 duty place.1)) place.1,
  );
}

-- an obligation at a place of a list that is that of the script
pub at_place : (t : Script) (duties : List Duty) → duties ≡ obligations_of t → (n : ℕ) (d : Duty) → n < length duties
    → slice_get (obligations_of t) n ≡ Some (get_or duties n d)
at_place t duties same n d less = subst (λ (l : List Duty). slice_get l n ≡ Some (get_or duties n d)) same (slice_get-get_or duties n d less)

-- what there is of an option that is known
pub of_some : {A : Type 0} (P : Type 0) (Q : A → Type 0) (o : Option A) (x : A) → o ≡ Some x → MatchOption o P Q → Q x
of_some {A} P Q o x e h = let R : Option A → Type 0 = λ i. MatchOption i P Q in subst R e h

pub of_none : {A : Type 0} (P : Type 0) (Q : A → Type 0) (o : Option A) → o ≡ None → MatchOption o P Q → P
of_none {A} P Q o e h = let R : Option A → Type 0 = λ i. MatchOption i P Q in subst R e h
