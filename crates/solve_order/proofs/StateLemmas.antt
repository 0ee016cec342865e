-- What each call makes of the state of `Order`.
use Rattle.std.proofs.Common.{◌≡◌, ◌↔◌, ℕ, ◌-◌, ◌<◌, ◌≤◌, Bool, true, false, not, List, [], ◌∷◌, ◌++◌, length, take, ℤ, pos, IsTrue, refl, sym, ◌∙◌, subst, arith}
use Rattle.std.specs.Bool.{OnTrue, OnFalse}
use Rattle.std.proofs.lemmas.List.{length_push, get_or-take, take_at, length-take-le, take-take}
use Rattle.solve_theory.specs.LitBuf.{LitList}
use Rattle.solve_theory.specs.Models.{HasModel}
use Rattle.solve_order.specs.declared.diff.Diff.{Diff}
use Rattle.solve_order.specs.declared.frontier.Reach.{Reach}
use Rattle.solve_order.specs.Conflict.{IsConflict}
use Rattle.solve_order.specs.Difference.{Constraints, is_assignment, meets, is_literal}
use Rattle.solve_order.specs.Order.{IsOrder, kept}
use Rattle.solve_order.specs.Potential.{IsPotential, Meets}
use Rattle.solve_order.proofs.ModelLemmas.{IsModelOf-potential, no_model}

module _ (e : Constraints) (values : List ℤ) (frontier : List Reach) (core : LitList ℕ) where
  pub not_refuted : (refuted : Bool) → IsOrder e values frontier core refuted → HasModel (is_assignment e.variables) meets e.literals → refuted ≡ false
  not_refuted true o h = absurd (no_model e.literals e.variables core.items (o.conflict refl) h)
  not_refuted false o h = refl

  pub is_refuted : (refuted : Bool) → IsOrder e values frontier core refuted → ¬ HasModel (is_assignment e.variables) meets e.literals → refuted ≡ true
  is_refuted true o h = refl
  is_refuted false o h = absurd (h (record { model = values; fits = IsModelOf-potential e values o.potential }))

  -- where the literals are not refuted, the values are a potential of all
  pub potential_of_all : (refuted : Bool) → IsOrder e values frontier core refuted → refuted ≡ false → IsPotential e values
  potential_of_all true o h = absurd cc
  potential_of_all false o h = o.potential

  -- only the first literals are kept
  potential_of_first : (literals : List Diff) (k : ℕ) → IsPotential (record e { literals = literals }) values → k ≤ length literals → IsPotential (record e { literals = take k literals }) values
  potential_of_first literals k h le =
      let none : Diff = record { x = 0; y = 0; c = pos 0 } in
      let long = length-take-le k literals le in
      record {
        as_long = h.as_long;
        short = h.short;
        assigns = h.assigns;
        over = λ p b. subst (λ l. IsTrue (is_literal e.variables l)) (sym (get_or-take k literals p none (omega arith))) (h.over p (omega arith));
        meets_each = λ p b. subst (Meets values) (sym (get_or-take k literals p none (omega arith))) (h.meets_each p (omega arith));
      }

  potential_after_cut : (refuted : Bool) (n : ℕ) → IsPotential (record e { literals = kept refuted e.literals }) values → 0 < n → n ≤ length e.literals → IsPotential (record e { literals = take (length e.literals - n) e.literals }) values
  potential_after_cut false n h some le = potential_of_first e.literals (length e.literals - n) h (omega arith)
  potential_after_cut true n h some le =
      let shorter = length-take-le (length e.literals - 1) e.literals (omega arith) in
      subst (λ ls. IsPotential (record e { literals = ls }) values) (take-take (length e.literals - n) (length e.literals - 1) e.literals (omega arith))
      (potential_of_first (take (length e.literals - 1) e.literals) (length e.literals - n) h (omega arith))

  pub IsOrder-cut : (refuted : Bool) (n : ℕ) → IsOrder e values frontier core refuted → 0 < n → n ≤ length e.literals → IsOrder (record e { literals = take (length e.literals - n) e.literals }) values frontier core false
  IsOrder-cut refuted n o some le = record {
    some = o.some;
    potential = potential_after_cut refuted n o.potential some le;
    conflict = λ h. absurd cc;
    fresh = o.fresh;
    room = o.room;
  }

  module _ (l : Diff) (o : IsOrder e values frontier core false) (values' : List ℤ) (frontier' : List Reach) (core' : LitList ℕ) (fresh : frontier' ≡ frontier) (room : core'.capacity ≡ core.capacity) where
    pub IsOrder-assert : (b : Bool) → OnTrue b (IsPotential (record e { literals = e.literals ++ l ∷ [] }) values') → OnFalse b (values' ≡ values) → OnFalse b (IsConflict (e.literals ++ l ∷ []) e.variables core'.items) → IsOrder (record e { literals = e.literals ++ l ∷ [] }) values' frontier' core' (not b)
    IsOrder-assert true potential stays conflict = record { some = o.some; potential = potential; conflict = λ h. absurd cc; fresh = fresh ∙ o.fresh; room = room ∙ o.room }
    IsOrder-assert false potential stays conflict =
        let long = length_push e.literals l in
        let back : take (length (e.literals ++ l ∷ []) - 1) (e.literals ++ l ∷ []) ≡ e.literals = take_at e.literals (l ∷ []) (length (e.literals ++ l ∷ []) - 1) (omega arith) in
        record {
          some = o.some;
          potential = subst (λ ls. IsPotential (record e { literals = ls }) values') (sym back) (subst (IsPotential e) (sym stays) o.potential);
          conflict = λ h. conflict;
          fresh = fresh ∙ o.fresh;
          room = room ∙ o.room;
        }

    pub verdict : (b : Bool) → OnTrue b (IsPotential (record e { literals = e.literals ++ l ∷ [] }) values') → OnFalse b (IsConflict (e.literals ++ l ∷ []) e.variables core'.items) → IsTrue b ↔ HasModel (is_assignment e.variables) meets (e.literals ++ l ∷ [])
    verdict true potential conflict = (λ h. record { model = values'; fits = IsModelOf-potential (record e { literals = e.literals ++ l ∷ [] }) values' potential }, λ h. refl)
    verdict false potential conflict = (λ h. absurd cc, λ h. absurd (no_model (e.literals ++ l ∷ []) e.variables core'.items conflict h))
