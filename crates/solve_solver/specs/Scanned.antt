-- What a scan of all clauses shows of a search.
use Rattle.std.specs.Prelude.{◌≡◌, ◌≢◌, ℕ, ◌<◌, Bool, List, None}
use Rattle.solve_solver.specs.declared.units.ClauseState.{ClauseState}
use Rattle.solve_solver.specs.declared.units.ClauseState.TheVariants.{Conflict, UnitLiteral, Open}
use Rattle.solve_solver.specs.declared.literal.PLit.{PLit}
use Rattle.solve_solver.specs.declared.trail.Entry.{Entry}
use Rattle.solve_solver.specs.ContextView.{ContextView, Lawful}
use Rattle.solve_solver.specs.Steps.{IsSolved}
use Rattle.solve_solver.specs.Trail.{Forces, IsRefuted, value_in}

-- a literal that is not set follows
pub record IsNext (Lawful : List Bool → Type 0) (vars : ℕ) (es : List Entry) (l : PLit) : Type 0 where
  pub within : l.var < vars
  pub unset : value_in es l.var ≡ None
  pub forced : Forces Lawful es l

-- a conflict, a literal that follows, or that the trail is a solution once each variable is set
abbrev pub IsScanned : {T M L : Type 0} → (T → List L) → (T → M → Bool) → (M → L → Bool) → ClauseState → ContextView T L → Type 0
IsScanned literals models meets Conflict s = IsRefuted (Lawful models meets s) s.entries
IsScanned literals models meets (UnitLiteral l) s = IsNext (Lawful models meets s) s.vars s.entries l
IsScanned literals models meets Open s = ((var : ℕ) → var < s.vars → value_in s.entries var ≢ None) → IsSolved literals models meets s

-- the same of a look at some clauses, which may meet none
abbrev pub IsMetIn : (List Bool → Type 0) → ℕ → List Entry → ClauseState → Type 0
IsMetIn Lawful vars es Conflict = IsRefuted Lawful es
IsMetIn Lawful vars es (UnitLiteral l) = IsNext Lawful vars es l
IsMetIn Lawful vars es Open = Unit {0}
