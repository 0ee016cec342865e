-- Equal inputs are the same, and have one number.
use Rattle.std.proofs.Common.{◌≡◌, ℕ, true, false, ◌&&◌, refl, sym, subst, ◌∙◌, List, [], ◌∷◌, ◌++◌, Some, length, ◌≤◌, cond, ap, rules, arith, slice_get, inl, inr, Contains}
use Rattle.std.specs.Prelude.{nat_eq}
use Rattle.std.specs.List.{list_any}
use Rattle.std.proofs.lemmas.Bool.{eqb-true, and_parts}
use Rattle.form_terms.proofs.Lists.{Contains-cons_cases, Contains-none}
use Rattle.indexmap.specs.IndexSet.{insert_key}
use Rattle.ground_instances.specs.declared.input.Value.{Value}
use Rattle.ground_instances.specs.declared.input.Value.TheVariants.{Term, Literal}
use Rattle.ground_instances.specs.declared.input.Input.{Input}
use Rattle.ground_instances.specs.declared.input.Input.TheVariants.{There, Equal, Less, Has, Flag, Present}
use Rattle.ground_instances.specs.Inputs.{IsNumbered}
use Rattle.ground_instances.specs.contracts.input.ValuePartialEq.TheImpl as value_eq
use Rattle.ground_instances.specs.contracts.input.InputPartialEq.TheImpl as input_eq

same_value : (v w : Value) → (value_eq.ghosts).eq v w ≡ true → v ≡ w
same_value (Term a) (Term b) e = ap (λ a. Term a) (eqb-true a b e)
same_value (Term a) w e = cc
same_value (Literal a) (Literal b) e = ap (λ a. Literal a) (eqb-true a b e)
same_value (Literal a) w e = cc

same_two : (f : Value → Value → Input) (a b c d : Value) → ((value_eq.ghosts).eq a c && (value_eq.ghosts).eq b d) ≡ true → f a b ≡ f c d
same_two f a b c d e =
    let p = and_parts ((value_eq.ghosts).eq a c) ((value_eq.ghosts).eq b d) e in
    let x = same_value a c p.0 in
    let y = same_value b d p.1 in cc

same_one : (f : ℕ → Value → Input) (a : ℕ) (b : Value) (c : ℕ) (d : Value) → (nat_eq a c && (value_eq.ghosts).eq b d) ≡ true → f a b ≡ f c d
same_one f a b c d e =
    let p = and_parts (nat_eq a c) ((value_eq.ghosts).eq b d) e in
    let x = eqb-true a c p.0 in
    let y = same_value b d p.1 in cc

-- inputs that are compared as equal are the same
pub same_input : (i j : Input) → (input_eq.ghosts).eq i j ≡ true → i ≡ j
same_input (There a) (There b) e = ap (λ a. There a) (eqb-true a b e)
same_input (There a) j e = cc
same_input (Equal a b) (Equal c d) e = same_two (λ a b. Equal a b) a b c d e
same_input (Equal a b) j e = cc
same_input (Less a b) (Less c d) e = same_two (λ a b. Less a b) a b c d e
same_input (Less a b) j e = cc
same_input (Has r a b) (Has q c d) e =
    let p = and_parts (nat_eq r q) ((value_eq.ghosts).eq a c && (value_eq.ghosts).eq b d) e in
    let x = eqb-true r q p.0 in
    ap (λ r. Has r a b) x ∙ same_two (λ a b. Has q a b) a b c d p.1
same_input (Has r a b) j e = cc
same_input (Flag a b) (Flag c d) e = same_one (λ a b. Flag a b) a b c d e
same_input (Flag a b) j e = cc
same_input (Present a b) (Present c d) e = same_one (λ a b. Present a b) a b c d e
same_input (Present a b) j e = cc

only_one : (input other : Input) → Contains (input ∷ []) other → other ≡ input
only_one input other c = elim (Contains-cons_cases input [] other c) [ inl same ↦ sym same | inr none ↦ Contains-none other none ]

-- an insertion adds one input or none
pub more_by_insert : (old : List Input) (input : Input) → (more : List Input) × (insert_key (input_eq.ghosts).eq old input ≡ old ++ more) × (length more ≤ 1) × ((other : Input) → Contains more other → other ≡ input)
more_by_insert old input =
    elim (list_any ((input_eq.ghosts).eq input) old) as (λ b. (more : List Input) × (cond b old (old ++ input ∷ []) ≡ old ++ more) × (length more ≤ 1) × ((other : Input) → Contains more other → other ≡ input)) [
      | true ↦ ([], search rules, omega arith, λ other c. Contains-none other c)
      | false ↦ (input ∷ [], refl, omega arith, λ other c. only_one input other c)
    ]

-- the inputs after an insertion, where the number is that of an equal input
pub numbered_by : (old : List Input) (input : Input) (new : List Input) (id : ℕ) (k : Input) → new ≡ insert_key (input_eq.ghosts).eq old input → slice_get new id ≡ Some k → (input_eq.ghosts).eq input k ≡ true
    → IsNumbered old input new id
numbered_by old input new id k e at same =
    let P : Input → Type 0 = λ i. slice_get new id ≡ Some i in
    let more = more_by_insert old input in
    record { there = subst P (sym (same_input input k same)) at; more = more.0; whole = e ∙ more.1; only = more.3 }
