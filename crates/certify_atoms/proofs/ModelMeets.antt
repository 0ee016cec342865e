-- With the columns of a lawful model each atom says what its fact is, and the model meets the clauses on the order of numbers.
use Rattle.std.proofs.Common.{◌≡◌, ℕ, ◌+◌, ◌-◌, ◌<◌, Bool, true, false, ◌||◌, ◌&&◌, not, inl, inr, sym, ◌∙◌, refl, List, [], ◌∷◌, Some, length, get_or, ap, subst, arith, cond, Contains, slice_get, ℤ, ◌+ℤ◌, IsTrue}
use Rattle.std.specs.Prelude.{int_lt}
use Rattle.std.specs.List.{range_with_len}
use Rattle.std.specs.Ordering.{int_eq}
use Rattle.std.proofs.lemmas.Int.{ints}
use Rattle.std.proofs.lemmas.Option.{slice_get-get_or}
use Rattle.solve_equality.specs.Equality.{meets_literal}
use Rattle.solve_equality.specs.declared.literal.EqualityLit.{EqualityLit}
use Rattle.solve_equality.specs.declared.literal.EqualityLit.TheVariants as equality
use Rattle.solve_order.specs.Difference.{value_of}
use Rattle.form_formula.specs.declared.node.Node.{Node}
use Rattle.form_formula.specs.declared.structure.Signature.{Signature}
use Rattle.form_terms.proofs.Lists.{Contains-cons_cases, Contains-none, range-within}
use Rattle.form_tables.specs.Facts.{is_fact, is_met}
use Rattle.form_tables.specs.Models.{Model, IsLawful, assignment_of}
use Rattle.ground_terms.specs.declared.node.TermNode.{TermNode}
use Rattle.ground_problem.specs.Facts.{clause_at, fact_at}
use Rattle.ground_problem.specs.Words.{vocabulary_at}
use Rattle.ground_problem.specs.declared.facts.FactLiteral.{FactLiteral}
use Rattle.ground_problem.specs.declared.facts.FactNode.{FactNode}
use Rattle.ground_problem.specs.declared.facts.FactNode.TheVariants.{There, Same, Below, Raised, Related, Empty}
use Rattle.ground_problem.specs.declared.words.Words.{Words}
use Rattle.certify_clauses.specs.Problem.{Said, meets_said}
use Rattle.certify_atoms.specs.Atoms.{Both, IsAtomOf}
use Rattle.certify_atoms.specs.Columns.{ModelsHaveColumns}
use Rattle.certify_atoms.specs.Orders.{IsOrder, is_so, is_not_so}
use Rattle.certify_atoms.proofs.ModelColumns.{above_difference, below_difference, class_column, classes_fit, lower_numbers, number_column, numbers_fit, same_met, same_numbers}

and_both : (p q : Bool) → p ≡ true → q ≡ true → (p && q) ≡ true
and_both true q h k = k
and_both false q h k = cc

-- two numbers are one, or one is below the other
apart_or_one : (x y : ℤ) → (int_eq x y || (int_lt x y || (int_lt y x || false))) ≡ true
apart_or_one x y = grind (arith, ints)

one_not_below : (x y : ℤ) → (not (int_eq x y) || (not (int_lt x y) || false)) ≡ true
one_not_below x y = grind (arith, ints)

one_not_above : (x y : ℤ) → (not (int_eq x y) || (not (int_lt y x) || false)) ≡ true
one_not_above x y = grind (arith, ints)

abbrev same_lit : ℕ → ℕ → EqualityLit
same_lit c d = equality.Same c d

module _ (g : Signature) (nodes : List Node) (terms : List TermNode) (w : Words) (texts : List (List ℕ)) (spare : ℕ → List ℕ) (m : Model) (law : IsLawful g texts spare m (vocabulary_at terms w)) where
  abbrev own : FactNode → Bool
  own p = is_fact (assignment_of g texts spare m) (fact_at nodes terms p)

  abbrev C : List ℕ
  C = class_column g nodes terms w texts spare m law

  abbrev N : List ℤ
  N = number_column g nodes terms w texts spare m law

  abbrev is_met_by : Said → Bool
  is_met_by l = meets_said (C, N) l

  -- what a fact says is met
  atom_met : (p : FactNode) (both : Both) → IsAtomOf g nodes terms w texts p both → IsTrue (is_met_by (cond (own p) both.0 both.1))
  atom_met (There id) both h = absurd h
  atom_met (Same x y) both h = by (own (Same x y)) refl
    where
      same : own (Same x y) ≡ meets_literal C (same_lit h.left h.right)
      same = same_met g nodes terms w texts spare m law x y true h.left h.right h.sides

      by : (b : Bool) → own (Same x y) ≡ b → IsTrue (is_met_by (cond b both.0 both.1))
      by true e = ap is_met_by h.when_true ∙ (sym same ∙ e)
      by false e = ap is_met_by h.when_false ∙ ap not (sym same ∙ e)
  atom_met (Below x y) both h = by (own (Below x y)) refl
    where
      less : own (Below x y) ≡ int_lt (value_of N h.x +ℤ h.o) (value_of N h.y +ℤ h.q)
      less = lower_numbers g nodes terms w texts spare m law x y h.x h.y h.o h.q h.left h.right

      by : (b : Bool) → own (Below x y) ≡ b → IsTrue (is_met_by (cond b both.0 both.1))
      by true e = ap is_met_by h.when_true ∙ (below_difference (value_of N h.x) (value_of N h.y) h.o h.q ∙ (sym less ∙ e))
      by false e = ap is_met_by h.when_false ∙ (above_difference (value_of N h.x) (value_of N h.y) h.o h.q ∙ ap not (sym less ∙ e))
  atom_met (Raised id) both h = absurd h
  atom_met (Related p) both h = absurd h
  atom_met (Empty sort) both h = absurd h

  -- numbers are ordered
  order_met : (clause : List FactLiteral) → IsOrder g nodes terms w texts clause → is_met (assignment_of g texts spare m) (clause_at nodes terms clause) ≡ true
  order_met clause h =
      let A = value_of N h.left.0 +ℤ h.left.1 in
      let B = value_of N h.right.0 +ℤ h.right.1 in
      let b = own (Below h.v h.u) in
      let d = own (Below h.u h.v) in
      let p : own (Same h.v h.u) ≡ int_eq A B = same_numbers g nodes terms w texts spare m law h.v h.u h.left.0 h.right.0 h.left.1 h.right.1 h.left.2 h.right.2 in
      let q : b ≡ int_lt A B = lower_numbers g nodes terms w texts spare m law h.v h.u h.left.0 h.right.0 h.left.1 h.right.1 h.left.2 h.right.2 in
      let r : d ≡ int_lt B A = lower_numbers g nodes terms w texts spare m law h.u h.v h.right.0 h.left.0 h.right.1 h.left.1 h.right.2 h.left.2 in
      let P : List FactLiteral → Type 0 = λ c. is_met (assignment_of g texts spare m) (clause_at nodes terms c) ≡ true in
      let one_of : List FactLiteral = is_so (Same h.v h.u) ∷ is_so (Below h.v h.u) ∷ is_so (Below h.u h.v) ∷ [] in
      let not_below : List FactLiteral = is_not_so (Same h.v h.u) ∷ is_not_so (Below h.v h.u) ∷ [] in
      let not_above : List FactLiteral = is_not_so (Same h.v h.u) ∷ is_not_so (Below h.u h.v) ∷ [] in
      elim (Contains-cons_cases one_of (not_below ∷ not_above ∷ []) clause h.listed) [
        | inl same ↦ subst P same (ap (λ z. z || (b || (d || false))) p ∙ (ap (λ z. int_eq A B || (z || (d || false))) q ∙ (ap (λ z. int_eq A B || (int_lt A B || (z || false))) r ∙ apart_or_one A B)))
        | inr rest ↦ elim (Contains-cons_cases not_below (not_above ∷ []) clause rest) [
          | inl same ↦ subst P same (ap (λ z. not z || (not b || false)) p ∙ (ap (λ z. not (int_eq A B) || (not z || false)) q ∙ one_not_below A B))
          | inr last ↦ elim (Contains-cons_cases not_above [] clause last) [
            | inl same ↦ subst P same (ap (λ z. not z || (not d || false)) p ∙ (ap (λ z. not (int_eq A B) || (not z || false)) r ∙ one_not_above A B))
            | inr none ↦ Contains-none clause none
          ]
        ]
      ]

pub models_columns : ModelsHaveColumns
models_columns g nodes terms w texts spare m law once =
    let fixed = range_with_len (length terms) (length texts) in
    record {
      columns = (class_column g nodes terms w texts spare m law, number_column g nodes terms w texts spare m law);
      are_columns = and_both _ _ (classes_fit g nodes terms w texts spare m law fixed (λ c there. placed c there) once) (numbers_fit g nodes terms w texts spare m law);
      meets_atoms = atom_met g nodes terms w texts spare m law;
      meets_orders = order_met g nodes terms w texts spare m law;
    }
  where
    placed : (c : ℕ) → Contains (range_with_len (length terms) (length texts)) c → (j : ℕ) × (t : List ℕ) × (slice_get texts j ≡ Some t) × (c ≡ length terms + j)
    placed c there =
        let (low, high) = range-within (length terms) (length texts) c there in
        let j = c - length terms in
        let lt : j < length texts = omega arith in (j, get_or texts j [], slice_get-get_or texts j [] lt, omega arith)
