-- Equal gates are the same, and have one number.
use Rattle.std.proofs.Common.{◌≡◌, ℕ, Bool, true, false, ◌&&◌, refl, sym, subst, ◌∙◌, List, [], ◌∷◌, ◌++◌, Some, length, ◌≤◌, inl, inr, cond, ap, rules, arith, slice_get, Contains}
use Rattle.std.specs.Prelude.{nat_eq}
use Rattle.std.specs.List.{list_any}
use Rattle.std.proofs.Math.Bool.{beq}
use Rattle.std.proofs.lemmas.Bool.{eqb-true, and_parts}
use Rattle.indexmap.specs.IndexSet.{insert_key}
use Rattle.form_formula.proofs.Placement.{slice_get_pushed}
use Rattle.form_terms.proofs.Lists.{Contains-none, Contains-cons_cases}
use Rattle.ground_gates.specs.declared.gate.Literal.{Literal}
use Rattle.ground_gates.specs.declared.gate.Gate.{Gate}
use Rattle.ground_gates.specs.declared.gate.Gate.TheVariants.{Yes, No, Input, Both, Either}
use Rattle.ground_gates.specs.Gates.{gate_value, values_of, value_of, IsPlaced, ArePlaced}
use Rattle.ground_gates.specs.Added.{IsAdded}
use Rattle.ground_gates.proofs.Values.{value_of-at, value_of-front, gate_value-front}
use Rattle.ground_gates.specs.contracts.gate.GatePartialEq.TheImpl as gate_eq

same_two : (f : ℕ → ℕ → Gate) (a b c d : ℕ) → (nat_eq a c && nat_eq b d) ≡ true → f a b ≡ f c d
same_two f a b c d e =
    let p = and_parts (nat_eq a c) (nat_eq b d) e in
    let x = eqb-true a c p.0 in
    let y = eqb-true b d p.1 in cc

same_bool : (a b : Bool) → beq a b ≡ true → a ≡ b
same_bool true true e = refl
same_bool true false e = cc
same_bool false true e = cc
same_bool false false e = refl

same_literal : (l m : Literal) → (nat_eq l.var m.var && beq l.plus m.plus) ≡ true → Input l ≡ Input m
same_literal l m e =
    let p = and_parts (nat_eq l.var m.var) (beq l.plus m.plus) e in
    let x : l.var ≡ m.var = eqb-true l.var m.var p.0 in
    let y : l.plus ≡ m.plus = same_bool l.plus m.plus p.1 in
    ap (λ n. Input (record { var = n; plus = l.plus })) x ∙ ap (λ b. Input (record { var = m.var; plus = b })) y

-- gates that are compared as equal are the same
pub same_gate : (m n : Gate) → (gate_eq.ghosts).eq m n ≡ true → m ≡ n
same_gate Yes Yes e = refl
same_gate Yes n e = cc
same_gate No No e = refl
same_gate No n e = cc
same_gate (Input l) (Input m) e = same_literal l m e
same_gate (Input l) n e = cc
same_gate (Both a b) (Both c d) e = same_two (λ a b. Both a b) a b c d e
same_gate (Both a b) n e = cc
same_gate (Either a b) (Either c d) e = same_two (λ a b. Either a b) a b c d e
same_gate (Either a b) n e = cc

-- an insertion adds one gate or none
pub more_by_insert : (old : List Gate) (gate : Gate)
    → (more : List Gate) × (insert_key (gate_eq.ghosts).eq old gate ≡ old ++ more) × (length more ≤ 1) × ((other : Gate) → Contains more other → other ≡ gate)
more_by_insert old gate =
    elim (list_any ((gate_eq.ghosts).eq gate) old) as (λ b.
    (more : List Gate) × (cond b old (old ++ gate ∷ []) ≡ old ++ more) × (length more ≤ 1) × ((other : Gate) → Contains more other → other ≡ gate)) [
      | true ↦ ([], search rules, omega arith, λ other c. Contains-none other c)
      | false ↦ (gate ∷ [], refl, omega arith, λ other c. elim (Contains-cons_cases gate [] other c) [ inl e ↦ sym e | inr none ↦ Contains-none other none ])
    ]

placed_pushed : (old : List Gate) (gate : Gate) → ArePlaced old → IsPlaced (length old) gate → ArePlaced (old ++ gate ∷ [])
placed_pushed old gate all here k n e =
    elim (slice_get_pushed old gate k n e) [
      | inl h ↦ all k n h
      | inr h ↦
          let P : Gate → Type 0 = λ n. IsPlaced k n in
          let Q : ℕ → Type 0 = λ k. IsPlaced k gate in
          subst P h.1 (subst Q (sym h.0) here)
    ]

pub placed_insert : (old : List Gate) (gate : Gate) → ArePlaced old → IsPlaced (length old) gate → ArePlaced (insert_key (gate_eq.ghosts).eq old gate)
placed_insert old gate all here =
    elim (list_any ((gate_eq.ghosts).eq gate) old) as (λ b. ArePlaced (cond b old (old ++ gate ∷ []))) [
      | true ↦ all
      | false ↦ placed_pushed old gate all here
    ]

-- the gates after an insertion, where the number is that of an equal gate
pub added_by : (old : List Gate) (gate : Gate) (new : List Gate) (id : ℕ) (k : Gate)
    → ArePlaced old → IsPlaced (length old) gate
    → new ≡ insert_key (gate_eq.ghosts).eq old gate → slice_get new id ≡ Some k → (gate_eq.ghosts).eq gate k ≡ true → IsAdded old gate new id
added_by old gate new id k all here e at same =
    let P : Gate → Type 0 = λ n. slice_get new id ≡ Some n in
    let there : slice_get new id ≡ Some gate = subst P (sym (same_gate gate k same)) at in
    let more = more_by_insert old gate in
    let whole : new ≡ old ++ more.0 = e ∙ more.1 in
    let placed : ArePlaced new = let Q : List Gate → Type 0 = λ gates. ArePlaced gates in subst Q (sym e) (placed_insert old gate all here) in
    record {
      there = there;
      more = more.0;
      whole = whole;
      only = more.3;
      means = λ v. value_of-at v new id gate placed there ∙ (ap (λ xs. gate_value v (values_of v xs) gate) whole ∙ gate_value-front v old more.0 gate here);
      kept = λ v k within. ap (λ xs. value_of v xs k) whole ∙ value_of-front v old more.0 k within;
    }
