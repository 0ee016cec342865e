-- The gates that were made, by their instances.
use Rattle.std.proofs.Common.{◌≡◌, ℕ, Bool, true, false, ◌&&◌, ◌⊎◌, inl, inr, cond, refl, sym, ◌∙◌, List, [], ◌∷◌, Option, Some, None, ap, subst, Contains}
use Rattle.std.specs.Prelude.{nat_eq, IfSome}
use Rattle.std.specs.Map.{lookup}
use Rattle.std.proofs.lemmas.Bool.{eqb-true, and_parts}
use Rattle.indexmap.specs.IndexMap.{insert_entry}
use Rattle.form_terms.proofs.Lists.{Contains-head, Contains-tail, Contains-cons_cases, Contains-none}
use Rattle.ground_instances.specs.declared.instance.Instance.{Instance}
use Rattle.ground_instances.specs.Instances.{AddsEntry}
use Rattle.ground_instances.specs.contracts.instance.InstancePartialEq.TheImpl as instance_eq

-- instances that are compared as equal are the same
pub same_instance : (i j : Instance) → (instance_eq.ghosts).eq i j ≡ true → i ≡ j
same_instance i j e =
    let p = and_parts (nat_eq i.node j.node) (nat_eq i.number j.number && (nat_eq i.variables j.variables && nat_eq i.arguments j.arguments)) e in
    let q = and_parts (nat_eq i.number j.number) (nat_eq i.variables j.variables && nat_eq i.arguments j.arguments) p.1 in
    let r = and_parts (nat_eq i.variables j.variables) (nat_eq i.arguments j.arguments) q.1 in
    let a : i.node ≡ j.node = eqb-true i.node j.node p.0 in
    let b : i.number ≡ j.number = eqb-true i.number j.number q.0 in
    let c : i.variables ≡ j.variables = eqb-true i.variables j.variables r.0 in
    let d : i.arguments ≡ j.arguments = eqb-true i.arguments j.arguments r.1 in
    ap (λ n. record { node = n; number = i.number; variables = i.variables; arguments = i.arguments }) a
    ∙ (ap (λ n. record { node = j.node; number = n; variables = i.variables; arguments = i.arguments }) b
    ∙ (ap (λ n. record { node = j.node; number = j.number; variables = n; arguments = i.arguments }) c
    ∙ ap (λ n. record { node = j.node; number = j.number; variables = j.variables; arguments = n }) d))

abbrev E : Instance → Instance → Bool
E i j = (instance_eq.ghosts).eq i j

-- what was looked up is an entry
found_here : (i : Instance) (gate : ℕ) (x : Instance × ℕ) (es : List (Instance × ℕ)) (b : Bool) → E i x.0 ≡ b → (lookup (E i) es ≡ Some gate → Contains es (i, gate)) → cond b (Some x.1) (lookup (E i) es) ≡ Some gate → Contains (x ∷ es) (i, gate)
found_here i gate x es true s later e =
    let k : i ≡ x.0 = same_instance i x.0 s in
    let v : x.1 ≡ gate = cc in
    let P : Instance → Type 0 = λ j. Contains (x ∷ es) (j, gate) in
    let Q : ℕ → Type 0 = λ n. Contains (x ∷ es) (x.0, n) in
    subst P (sym k) (subst Q v (Contains-head x es))
found_here i gate x es false s later e = Contains-tail x es (i, gate) (later e)

pub found_entry : (i : Instance) (gate : ℕ) (es : List (Instance × ℕ)) → lookup (E i) es ≡ Some gate → Contains es (i, gate)
found_entry i gate [] e = cc
found_entry i gate (x ∷ es) e = found_here i gate x es (E i x.0) refl (found_entry i gate es) e

pub found_in : (i : Instance) (es : List (Instance × ℕ)) (o : Option ℕ) → o ≡ lookup (E i) es → IfSome o (λ gate. Contains es (i, gate))
found_in i es None e = tt
found_in i es (Some gate) e = found_entry i gate es (sym e)

-- what an insertion adds
pair_parts : (j i : Instance) (other gate : ℕ) (p : Instance × ℕ) → p.0 ≡ i → p.1 ≡ gate → Contains (p ∷ []) (j, other) → (j ≡ i) × (other ≡ gate)
pair_parts j i other gate p e d c =
    elim (Contains-cons_cases p [] (j, other) c) [
      | inl q ↦ (sym (ap (λ x. x.0) q) ∙ e, sym (ap (λ x. x.1) q) ∙ d)
      | inr none ↦ Contains-none (j, other) none
    ]

added_here : (i : Instance) (gate : ℕ) (x : Instance × ℕ) (es : List (Instance × ℕ)) (b : Bool) → E i x.0 ≡ b → AddsEntry es i gate (insert_entry E es i gate)
    → (j : Instance) (other : ℕ) → Contains (cond b ((x.0, gate) ∷ es) (x ∷ insert_entry E es i gate)) (j, other) → Contains (x ∷ es) (j, other) ⊎ ((j ≡ i) × (other ≡ gate))
added_here i gate x es true s later j other c =
    elim (Contains-cons_cases (x.0, gate) es (j, other) c) [
      | inl e ↦ inr (sym (ap (λ p. p.0) e) ∙ sym (same_instance i x.0 s), sym (ap (λ p. p.1) e))
      | inr old ↦ inl (Contains-tail x es (j, other) old)
    ]
added_here i gate x es false s later j other c =
    elim (Contains-cons_cases x (insert_entry E es i gate) (j, other) c) [
      | inl e ↦ let P : Instance × ℕ → Type 0 = λ p. Contains (x ∷ es) p in inl (subst P e (Contains-head x es))
      | inr rest ↦ elim (later j other rest) [
        | inl old ↦ inl (Contains-tail x es (j, other) old)
        | inr new ↦ inr new
      ]
    ]

pub added_entry : (i : Instance) (gate : ℕ) (es : List (Instance × ℕ)) → AddsEntry es i gate (insert_entry E es i gate)
added_entry i gate [] = λ j other c. inr (pair_parts j i other gate (i, gate) refl refl c)
added_entry i gate (x ∷ es) = λ j other c. added_here i gate x es (E i x.0) refl (added_entry i gate es) j other c

pub added_to : (i : Instance) (gate : ℕ) (es new : List (Instance × ℕ)) → new ≡ insert_entry E es i gate → AddsEntry es i gate new
added_to i gate es new e = let P : List (Instance × ℕ) → Type 0 = λ xs. AddsEntry es i gate xs in subst P (sym e) (added_entry i gate es)
