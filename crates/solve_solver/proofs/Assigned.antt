-- The assignment of a trail on which each variable is set.
use Rattle.std.proofs.Common.{◌≡◌, ◌≢◌, ℕ, ◌<◌, Bool, true, false, cond, List, [], ◌∷◌, length, get_or, Option, Some, None, inl, inr, refl, sym, ap, ◌∙◌, arith, zero-add}
use Rattle.std.specs.Bool.{IsTrue}
use Rattle.std.specs.List.{All, Any, Contains}
use Rattle.std.specs.Option.{option_map, unwrap_or, IfSome}
use Rattle.std.proofs.lemmas.Bool.{cases_eq, cases_Bool}
use Rattle.std.proofs.lemmas.List.Folds.{list_any-from_Any}
use Rattle.std.proofs.lemmas.List.FromFn.{get_or-map-range_with_len, length-map-range_with_len}
use Rattle.solve_theory.proofs.Models.{HasModel-among}
use Rattle.solve_theory.specs.Models.{HasModel}
use Rattle.solve_solver.specs.declared.literal.PLit.{PLit}
use Rattle.solve_solver.specs.declared.trail.Entry.{Entry}
use Rattle.solve_solver.specs.Assignment.{value_at, signed, literal_value, meets_clause, theory_literals, IsLawful, SameLiterals}
use Rattle.solve_solver.specs.Clauses.{IsWithin}
use Rattle.solve_solver.specs.Trail.{value_in, Agrees, IsTrail, trail_literals, assignment_of}
use Rattle.solve_solver.specs.Units.{IsFalseIn, IsOpen}
use Rattle.solve_solver.proofs.Trails.{value_in-here, value_in-other}
use Rattle.solve_solver.proofs.Entailment.{true_from_value}
use Rattle.solve_solver.proofs.TheoryLists.{All-theory_literals, trail_literals-has, trail_literals-among}

length-assignment_of : (vars : ℕ) (es : List Entry) → length (assignment_of vars es) ≡ vars
length-assignment_of vars es = length-map-range_with_len (λ v. unwrap_or (value_in es v) false) 0 vars

-- a variable has its value in the assignment
pub value_at-assigned : (vars : ℕ) (es : List Entry) (v : ℕ) → v < vars → value_at (assignment_of vars es) v ≡ unwrap_or (value_in es v) false
value_at-assigned vars es v h = get_or-map-range_with_len (λ k. unwrap_or (value_in es k) false) 0 vars v v false h (zero-add v)

value_at-assignment_of : (vars : ℕ) (es : List Entry) (v : ℕ) (b : Bool) → v < vars → value_in es v ≡ Some b → value_at (assignment_of vars es) v ≡ b
value_at-assignment_of vars es v b h e = value_at-assigned vars es v h ∙ ap (λ o. unwrap_or o false) e

-- the assignment agrees with each later part of the trail
agrees_with_part : (vars : ℕ) (whole es : List Entry) → ((v : ℕ) (b : Bool) → value_in es v ≡ Some b → value_in whole v ≡ Some b) → IsTrail vars es → Agrees (assignment_of vars whole) es
agrees_with_part vars whole [] part t = tt
agrees_with_part vars whole (e ∷ es) part t = (
  true_from_value (assignment_of vars whole) e.literal
      (value_at-assignment_of vars whole e.literal.var e.literal.plus t.0 (part e.literal.var e.literal.plus (value_in-here e es e.literal.var refl))),
  agrees_with_part vars whole es below t.1.1,
)
  where
    below : (v : ℕ) (b : Bool) → value_in es v ≡ Some b → value_in whole v ≡ Some b
    below v b h = elim (cases_eq e.literal.var v) [
      | inl q ↦ let fresh : value_in es v ≡ None = ap (value_in es) (sym q) ∙ t.1.0 in cc
      | inr q ↦ part v b (value_in-other e es v q ∙ h)
    ]

Agrees-assignment_of : (vars : ℕ) (es : List Entry) → IsTrail vars es → Agrees (assignment_of vars es) es
Agrees-assignment_of vars es t = agrees_with_part vars es es (λ v b h. h) t

set_from_ne : (o : Option Bool) → o ≢ None → (b : Bool) × (o ≡ Some b)
set_from_ne None h = absurd (h refl)
set_from_ne (Some b) h = (b, refl)

module _ (vars : ℕ) (es : List Entry) (set : (v : ℕ) → v < vars → value_in es v ≢ None) where
  -- a literal that is not false is true
  open_is_true : (l : PLit) → l.var < vars → ¬ IsFalseIn es l → literal_value (assignment_of vars es) l ≡ true
  open_is_true l h f =
      let value = set_from_ne (value_in es l.var) (set l.var h) in
      let read = value_at-assignment_of vars es l.var value.0 h value.1 in
      elim (cases_Bool (signed l value.0)) [
        | inl t ↦ ap (signed l) read ∙ t
        | inr t ↦ absurd (f (ap (option_map (signed l)) value.1 ∙ ap Some t))
      ]

  -- a clause with such a literal is met
  open_is_met : (clause : List PLit) → IsWithin vars clause → Any (λ l. ¬ IsFalseIn es l) clause → IsTrue (meets_clause (assignment_of vars es) clause)
  open_is_met clause within (k, l, h, is, f) =
      let below : l.var < vars = rw is at (within k l h) in
      list_any-from_Any (literal_value (assignment_of vars es)) clause (k, l, h, is, open_is_true l below f)

  -- the theory's literals of the assignment are those of the trail
  assigned_among : {L : Type 0} (atoms : List (Option (L × L))) → All (Contains (trail_literals atoms es)) (theory_literals (assignment_of vars es) atoms)
  assigned_among {L} atoms =
      All-theory_literals (Contains (trail_literals atoms es)) (assignment_of vars es) atoms has
    where
      has : (v : ℕ) (pair : L × L) → v < length (assignment_of vars es) → get_or atoms v None ≡ Some pair → Contains (trail_literals atoms es) (cond (value_at (assignment_of vars es) v) pair.0 pair.1)
      has v pair h e =
          let below : v < vars = omega (arith, length-assignment_of vars es) in
          let value = set_from_ne (value_in es v) (set v below) in
          rw (value_at-assignment_of vars es v value.0 below value.1) (trail_literals-has atoms es v value.0 pair value.1 e)

  -- where no clause is in conflict and no unit, the assignment is lawful
  pub assigned_is_lawful : {M L : Type 0} (models : M → Bool) (meets : M → L → Bool) (clauses : List (List PLit)) (atoms : List (Option (L × L))) → All (IsWithin vars) clauses → All (IsOpen es) clauses → HasModel models meets (trail_literals atoms es) → IsLawful models meets vars clauses atoms (assignment_of vars es)
  assigned_is_lawful models meets clauses atoms within found h = record {
    one_each = length-assignment_of vars es;
    meets_each = λ k d l. open_is_met (get_or clauses k d) (within k d l) (found k d l).not_false;
    has_model = HasModel-among models meets (trail_literals atoms es) (theory_literals (assignment_of vars es) atoms) (assigned_among atoms) h;
  }

  -- and the theory has its literals
  pub assigned_is_shown : {L : Type 0} (atoms : List (Option (L × L))) → IsTrail vars es → SameLiterals (trail_literals atoms es) (theory_literals (assignment_of vars es) atoms)
  assigned_is_shown atoms t = record {
    there = trail_literals-among (assignment_of vars es) atoms vars es (length-assignment_of vars es) t (Agrees-assignment_of vars es t);
    back = assigned_among atoms;
  }

-- what holds of an assignment that is there
pub IfSome-where : {A : Type 0} (b : Bool) (x : A) (P : A → Type 0) → P x → IfSome (cond b (Some x) None) P
IfSome-where true x P h = h
IfSome-where false x P h = tt
