-- What a step of a search leaves.
use Rattle.std.specs.Prelude.{◌≡◌, ◌≢◌, ℕ, ◌+◌, ◌-◌, ◌<◌, ◌≤◌, Bool, true, false, List, [], ◌∷◌, length, None, All}
use Rattle.solve_theory.specs.Models.{HasModel}
use Rattle.solve_solver.specs.declared.literal.PLit.{PLit}
use Rattle.solve_solver.specs.declared.trail.Entry.{Entry}
use Rattle.solve_solver.specs.declared.progress.Progress.{Progress}
use Rattle.solve_solver.specs.declared.progress.Progress.TheVariants.{Open, Refuted, Found, Exhausted}
use Rattle.solve_solver.specs.Assignment.{SameLiterals, theory_literals}
use Rattle.solve_solver.specs.ContextView.{ContextView, Lawful}
use Rattle.solve_solver.specs.Marks.{ForcesMarked, IsRefutedMarked}
use Rattle.solve_solver.specs.Trail.{assignment_of, value_in}
use Rattle.solve_solver.specs.Units.{IsOpen}
use Rattle.solve_solver.specs.Work.{tree_size, pending, rest}

-- each variable is set, and no clause is in conflict
pub record IsHeld (vars : ℕ) (clauses : List (List PLit)) (es : List Entry) : Type 0 where
  pub set_each : (var : ℕ) → var < vars → value_in es var ≢ None
  pub open_each : All (IsOpen es) clauses

-- the assignment of the trail is lawful, and the theory has its literals
pub record IsSolved {T M L : Type 0} (literals : T → List L) (models : T → M → Bool) (meets : M → L → Bool) (s : ContextView T L) : Type 0 where
  pub lawful : Lawful models meets s (assignment_of s.vars s.entries)
  pub shown : SameLiterals (literals s.theory) (theory_literals (assignment_of s.vars s.entries) s.atoms)
  pub has_model : HasModel (models s.theory) meets (literals s.theory)
  pub held : IsHeld s.vars s.clauses s.entries

-- no assignment is lawful, and the theory has no literals
pub record IsExhausted {T M L : Type 0} (literals : T → List L) (models : T → M → Bool) (meets : M → L → Bool) (s : ContextView T L) : Type 0 where
  pub none_lawful : (assignment : List Bool) → ¬ Lawful models meets s assignment
  pub nothing : literals s.theory ≡ []

-- what is known where a search stands, of which some literals of the trail are marked
abbrev pub IsReached : {T M L : Type 0} → (T → List L) → (T → M → Bool) → (M → L → Bool) → Progress → List Bool → ContextView T L → Type 0
IsReached literals models meets Open marks s = Unit {0}
IsReached literals models meets Refuted marks s = IsRefutedMarked (Lawful models meets s) marks s.entries
IsReached literals models meets Found marks s = IsSolved literals models meets s
IsReached literals models meets Exhausted marks s = IsExhausted literals models meets s

-- a literal is set without a decision, or the trail stays as it is and is refuted
abbrev pub IsFollowed : List Entry → List Entry → PLit → Progress → Type 0
IsFollowed old new l Open = new ≡ record { literal = l; decided = false } ∷ old
IsFollowed old new l Refuted = new ≡ old
IsFollowed old new l Found = ⊥
IsFollowed old new l Exhausted = ⊥

-- a literal is decided
abbrev pub IsDecided : List Entry → List Entry → PLit → Progress → Type 0
IsDecided old new l Open = new ≡ record { literal = l; decided = true } ∷ old
IsDecided old new l Refuted = ⊥
IsDecided old new l Found = ⊥
IsDecided old new l Exhausted = ⊥

-- a bound on the steps that are left
abbrev pub work : {T L : Type 0} → Progress → ContextView T L → ℕ
work Open s = tree_size (s.vars - length s.entries) + pending s.vars s.entries + 1
work Refuted s = pending s.vars s.entries + 1
work Found s = 0
work Exhausted s = 0

-- Literals were taken back, a decision among them, and what is left and marked forces a literal.
pub record IsTakenBack (Lawful : List Bool → Type 0) (marks : List Bool) (vars : ℕ) (old new : List Entry) (l : PLit) : Type 0 where
  pub within : l.var < vars
  pub unset : value_in new l.var ≡ None
  pub forced : ForcesMarked Lawful marks new l
  pub less : rest vars new ≤ pending vars old
