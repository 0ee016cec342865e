-- Models and conflicts as the trait states them.
use Rattle.std.proofs.Common.{◌≡◌, ◌==◌, ℕ, ◌-◌, ◌^◌, ◌<◌, true, ◌&&◌, List, [], ◌∷◌, length, ℤ, pos, neg_ℤ, ◌-ℤ◌, IsTrue, sym, ap, subst, arith}
use Rattle.std.specs.Prelude.{int_le}
use Rattle.std.specs.List.{All, list_all, cons_option}
use Rattle.std.specs.Ordering.{int_eq}
use Rattle.std.proofs.lemmas.Int.{ints}
use Rattle.std.proofs.lemmas.Bool.{eqb-true, eq-eqb}
use Rattle.std.proofs.lemmas.Option.{slice_get-get_or}
use Rattle.std.proofs.lemmas.List.Elements.{All-nil, All-cons, All-head, All-tail, All-get_or, All-from_get_or, All-weaker}
use Rattle.std.proofs.lemmas.List.Sums.{AllPass-from_list_all, list_all-from_AllPass}
use Rattle.solve_theory.specs.Models.{IsModelOf, HasModel, IsCore, literals_at}
use Rattle.solve_order.specs.declared.diff.Diff.{Diff}
use Rattle.solve_order.specs.Conflict.{IsConflict}
use Rattle.solve_order.specs.Difference.{Constraints, value_of, is_in_range, is_assignment, meets}
use Rattle.solve_order.specs.Edges.{literal_at}
use Rattle.solve_order.specs.Potential.{IsAssignment, Meets, IsPotential}
use Rattle.solve_order.proofs.DifferenceLemmas.{both, and, le_from_test, test_from_le, eq_from_test, test_from_eq}

-- a test of an assignment, as facts
pub IsAssignment-from_test : (n : ℕ) (m : List ℤ) → IsTrue (is_assignment n m) → IsAssignment n m
IsAssignment-from_test n m h =
    let a = both (length m == n && int_eq (value_of m 0) (pos 0)) (list_all is_in_range m) h in
    let b = both (length m == n) (int_eq (value_of m 0) (pos 0)) a.0 in
    let long : length m ≡ n = eqb-true (length m) n b.0 in
    let each : (v : ℕ) → v < n → IsTrue (is_in_range (value_of m v)) = λ v b. All-get_or (λ z. is_in_range z ≡ true) m v (pos 0) (omega arith) (AllPass-from_list_all is_in_range m a.1) in
    record {
      as_long = long;
      zero = eq_from_test (value_of m 0) (pos 0) b.1;
      low = λ v h. le_from_test _ _ (both (int_le (neg_ℤ (pos (2 ^ 63))) (value_of m v)) (int_le (value_of m v) (pos (2 ^ 63 - 1))) (each v h)).0;
      high = λ v h. le_from_test _ _ (both (int_le (neg_ℤ (pos (2 ^ 63))) (value_of m v)) (int_le (value_of m v) (pos (2 ^ 63 - 1))) (each v h)).1;
    }

pub test_from_IsAssignment : (n : ℕ) (m : List ℤ) → IsAssignment n m → IsTrue (is_assignment n m)
test_from_IsAssignment n m h =
    let long = h.as_long in
    let each : IsTrue (list_all is_in_range m) =
    list_all-from_AllPass is_in_range m (All-from_get_or (λ z. is_in_range z ≡ true) m (pos 0) (λ v b.
    and (int_le (neg_ℤ (pos (2 ^ 63))) (value_of m v)) (int_le (value_of m v) (pos (2 ^ 63 - 1)))
    (test_from_le (neg_ℤ (pos (2 ^ 63))) (value_of m v) (h.low v (omega arith))) (test_from_le (value_of m v) (pos (2 ^ 63 - 1)) (h.high v (omega arith)))))
    in
    and (length m == n && int_eq (value_of m 0) (pos 0)) (list_all is_in_range m) (and (length m == n) (int_eq (value_of m 0) (pos 0)) (eq-eqb (length m) n h.as_long) (test_from_eq (value_of m 0) (pos 0) h.zero)) each

Meets-from_test : (m : List ℤ) (l : Diff) → IsTrue (meets m l) → Meets m l
Meets-from_test m l h = let x = le_from_test (value_of m l.x -ℤ value_of m l.y) l.c h in omega (arith, ints)

test_from_Meets : (m : List ℤ) (l : Diff) → Meets m l → IsTrue (meets m l)
test_from_Meets m l h = test_from_le (value_of m l.x -ℤ value_of m l.y) l.c (omega (arith, ints))

-- a potential is a model
pub IsModelOf-potential : (e : Constraints) (values : List ℤ) → IsPotential e values → IsModelOf (is_assignment e.variables) meets e.literals values
IsModelOf-potential e values h = record {
  is_model = test_from_IsAssignment e.variables values (subst (λ n. IsAssignment n values) (sym h.as_long) h.assigns);
  meets_each = All-from_get_or (λ l. IsTrue (meets values l)) e.literals (record { x = 0; y = 0; c = pos 0 }) (λ p b. test_from_Meets values (literal_at e.literals p) (h.meets_each p b));
}

-- the literals at positions of a list are those of the list
met_at : (literals : List Diff) (P : Diff → Type 0) (positions : List ℕ) → All (λ p. p < length literals) positions → All P (literals_at literals positions) → All (λ p. P (literal_at literals p)) positions
met_at literals P [] within h = All-nil (λ p. P (literal_at literals p))
met_at literals P (p ∷ ps) within h =
    let here = All-head (λ q. q < length literals) p ps within in
    let rest = All-tail (λ q. q < length literals) p ps within in
    let found : literals_at literals (p ∷ ps) ≡ literal_at literals p ∷ literals_at literals ps = ap (λ o. cons_option o (literals_at literals ps)) (slice_get-get_or literals p (record { x = 0; y = 0; c = pos 0 }) here) in
    let each : All P (literal_at literals p ∷ literals_at literals ps) = subst (All P) found h in
    All-cons (λ q. P (literal_at literals q)) p ps (All-head P (literal_at literals p) (literals_at literals ps) each) (met_at literals P ps rest (All-tail P (literal_at literals p) (literals_at literals ps) each))

-- a conflict is a core
pub IsCore-conflict : (literals : List Diff) (n : ℕ) (positions : List ℕ) → IsConflict literals n positions → IsCore (is_assignment n) meets literals positions
IsCore-conflict literals n positions h = record {
  within = h.within;
  once = h.once;
  has_none = λ m. h.refutes m.model (IsAssignment-from_test n m.model m.fits.is_model)
      (met_at literals (Meets m.model) positions h.within
      (All-weaker (λ l. IsTrue (meets m.model l)) (Meets m.model) (Meets-from_test m.model) (literals_at literals positions) m.fits.meets_each));
}

-- where there is a conflict there is no model
pub no_model : (literals : List Diff) (n : ℕ) (positions : List ℕ) → IsConflict literals n positions → ¬ HasModel (is_assignment n) meets literals
no_model literals n positions h m =
    h.refutes m.model (IsAssignment-from_test n m.model m.fits.is_model)
    (All-weaker (λ p. p < length literals) (λ p. Meets m.model (literal_at literals p))
    (λ p b. Meets-from_test m.model (literal_at literals p) (All-get_or (λ l. IsTrue (meets m.model l)) literals p (record { x = 0; y = 0; c = pos 0 }) b m.fits.meets_each))
    positions h.within)
