-- What a look at a watched clause shows.
use Rattle.std.specs.Prelude.{◌≡◌, ℕ, ◌<◌, ◌*◌, ◌^◌, List, length, Option, Some, None, All, IsSomeAnd}
use Rattle.std.specs.List.{slice_get}
use Rattle.solve_solver.specs.declared.literal.PLit.{PLit}
use Rattle.solve_solver.specs.declared.looking.Look.{Look}
use Rattle.solve_solver.specs.declared.looking.Look.TheVariants.{Moves, Stays}
use Rattle.solve_solver.specs.declared.reason.Reason.{Reason}
use Rattle.solve_solver.specs.declared.reason.Reason.TheVariants.{Given, Learned, Unknown}
use Rattle.solve_solver.specs.declared.trail.Entry.{Entry}
use Rattle.solve_solver.specs.declared.units.ClauseState.{ClauseState}
use Rattle.solve_solver.specs.declared.units.ClauseState.TheVariants.{Conflict, UnitLiteral, Open}
use Rattle.solve_solver.specs.declared.limits.TheConstants.{TOO_MANY}
use Rattle.solve_solver.specs.Learned.{LearnedView, clause_of}
use Rattle.solve_solver.specs.Units.{IsFalseIn, IsUnit}

-- how many variables there are, and how many slots of learned clauses
pub record WatchesView : Type 0 where
  pub vars : ℕ
  pub learned : ℕ

-- there is a list for each literal, and each node has a literal
pub record AreWatches (vars learned lists nodes : ℕ) (watched : List PLit) : Type 0 where
  pub list_each : lists ≡ 2 * vars
  pub literal_each : length watched ≡ nodes
  pub within : All (λ (l : PLit). l.var < vars) watched
  pub few_vars : vars < TOO_MANY
  pub few_nodes : nodes < 2 ^ 32
  pub few_learned : learned < 2 ^ 20

-- the clause of a reason, among those that are given and those that were learned, if these are used
abbrev pub clause_in : List (List PLit) → Option LearnedView → Reason → Option (List PLit)
clause_in given learned (Given place) = slice_get given place
clause_in given (Some learned) (Learned slot) = clause_of learned slot
clause_in given None (Learned slot) = None
clause_in given learned Unknown = None

-- the clause is in conflict, or a unit
abbrev pub IsMet : List Entry → Option (List PLit) → ClauseState → Type 0
IsMet es clause Conflict = IsSomeAnd clause (All (IsFalseIn es))
IsMet es clause (UnitLiteral l) = IsSomeAnd clause (λ c. IsUnit es c l)
IsMet es clause Open = Unit {0}

-- another literal can be watched, or the clause is met so
abbrev pub IsLookAt : ℕ → List Entry → Option (List PLit) → Look → Type 0
IsLookAt vars es clause (Moves l) = l.var < vars
IsLookAt vars es clause (Stays state) = IsMet es clause state
