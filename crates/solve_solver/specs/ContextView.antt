-- What a contract sees of a `Context`, and what holds of it at each step.
use Rattle.std.specs.Prelude.{◌≡◌, ℕ, ◌≤◌, Bool, List, length, Option, IsTrue, IfSome, All}
use Rattle.solve_theory.specs.Models.{HasModel}
use Rattle.solve_solver.specs.declared.literal.PLit.{PLit}
use Rattle.solve_solver.specs.declared.trail.Entry.{Entry}
use Rattle.solve_solver.specs.Assignment.{IsLawful}
use Rattle.solve_solver.specs.Clauses.{IsWithin}
use Rattle.solve_solver.specs.Trail.{IsTrail, Follows, trail_literals, trail_places}

-- what is searched, and what is set so far, the latest first
pub record ContextView (T L : Type 0) : Type 0 where
  pub vars : ℕ
  pub clauses : List (List PLit)
  pub atoms : List (Option (L × L))
  pub theory : T
  pub entries : List Entry

-- the assignments that are sought
abbrev pub Lawful : {T M L : Type 0} → (T → M → Bool) → (M → L → Bool) → ContextView T L → List Bool → Type 0
Lawful models meets s = IsLawful (models s.theory) meets s.vars s.clauses s.atoms

-- the theory takes both literals of an atom
abbrev pub IsTaken : {L : Type 0} → (L → Bool) → Option (L × L) → Type 0
IsTaken takes atom = IfSome atom (λ pair. IsTrue (takes pair.0) × IsTrue (takes pair.1))

-- what is searched stays as it is
pub record SameProblem {T M L : Type 0} (capacity : T → ℕ) (takes : T → L → Bool) (models : T → M → Bool) (old new : ContextView T L) : Type 0 where
  pub vars : new.vars ≡ old.vars
  pub clauses : new.clauses ≡ old.clauses
  pub atoms : new.atoms ≡ old.atoms
  pub capacity_is : capacity new.theory ≡ capacity old.theory
  pub takes_is : takes new.theory ≡ takes old.theory
  pub models_is : models new.theory ≡ models old.theory

-- The theory has the literals of the trail, in its order, and they have a model. What is no
-- decision follows from what was set before it: clauses that follow from the others change nothing.
pub record IsContext {T M L : Type 0} (literals : T → List L) (capacity : T → ℕ) (takes : T → L → Bool) (models : T → M → Bool) (meets : M → L → Bool) (s : ContextView T L) : Type 0 where
  pub in_step : literals s.theory ≡ trail_literals s.atoms s.entries
  pub has_model : HasModel (models s.theory) meets (literals s.theory)
  pub is_trail : IsTrail s.vars s.entries
  pub follows : Follows (Lawful models meets s) s.entries
  pub one_each : length s.atoms ≡ s.vars
  pub room : s.vars ≤ capacity s.theory
  pub taken : All (IsTaken (takes s.theory)) s.atoms
  pub within : All (IsWithin s.vars) s.clauses

-- Beside it is the variable of each of the theory's literals, with room for each variable.
pub record IsKeptContext {T M L : Type 0} (literals : T → List L) (capacity : T → ℕ) (takes : T → L → Bool) (models : T → M → Bool) (meets : M → L → Bool) (s : ContextView T L) (places : List ℕ) (places_room core_room : ℕ) : Type 0 where
  pub state : IsContext literals capacity takes models meets s
  pub places_in_step : places ≡ trail_places s.atoms s.entries
  pub has_places_room : s.vars ≤ places_room
  pub has_core_room : s.vars ≤ core_room
