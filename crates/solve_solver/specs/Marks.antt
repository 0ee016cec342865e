-- What follows from a part of a trail alone: the literals whose variables are marked.
-- Marks are a list with one truth value for each variable.
use Rattle.std.specs.Prelude.{◌≡◌, ◌≢◌, ◌⊎◌, ℕ, ◌<◌, Bool, false, List, [], ◌∷◌, length, map, filter, Option, Some, None, IsTrue, All, slice_index}
use Rattle.std.specs.Bool.{OnTrue, OnFalse}
use Rattle.std.specs.List.{Any}
use Rattle.solve_solver.specs.declared.literal.PLit.{PLit}
use Rattle.solve_solver.specs.declared.trail.Entry.{Entry}
use Rattle.solve_solver.specs.Assignment.{value_at, literal_value, meets_clause, negated}
use Rattle.solve_solver.specs.Trail.{value_in, Forces, IsRefuted}
use Rattle.solve_solver.specs.Units.{IsFalseIn}

-- an assignment has each marked literal of the trail
abbrev pub AgreesMarked : List Bool → List Bool → List Entry → Type 0
AgreesMarked assignment marks es = (var : ℕ) (value : Bool) → value_in es var ≡ Some value → IsTrue (value_at marks var) → value_at assignment var ≡ value

-- a literal is true in each lawful assignment that has the marked ones
abbrev pub ForcesMarked : (List Bool → Type 0) → List Bool → List Entry → PLit → Type 0
ForcesMarked Lawful marks es l = (assignment : List Bool) → Lawful assignment → AgreesMarked assignment marks es → IsTrue (literal_value assignment l)

-- no lawful assignment has the marked ones
abbrev pub IsRefutedMarked : (List Bool → Type 0) → List Bool → List Entry → Type 0
IsRefutedMarked Lawful marks es = (assignment : List Bool) → Lawful assignment → ¬ AgreesMarked assignment marks es

-- what is known of a literal, or of none: the trail forces it, or is refuted
abbrev pub IsBacked : (List Bool → Type 0) → List Entry → Option PLit → Type 0
IsBacked Lawful es None = IsRefuted Lawful es
IsBacked Lawful es (Some l) = Forces Lawful es l

-- the same by the marked ones alone
abbrev pub IsBackedMarked : (List Bool → Type 0) → List Bool → List Entry → Option PLit → Type 0
IsBackedMarked Lawful marks es None = IsRefutedMarked Lawful marks es
IsBackedMarked Lawful marks es (Some l) = ForcesMarked Lawful marks es l

-- no mark is taken away
abbrev pub HasMarks : List Bool → List Bool → Type 0
HasMarks more fewer = (var : ℕ) → IsTrue (value_at fewer var) → IsTrue (value_at more var)

-- there is a decision, and nothing is marked from the latest one on
abbrev pub IsFreeLevel : List Bool → List Entry → Type 0
IsFreeLevel marks [] = ⊥
IsFreeLevel marks (e ∷ es) = (value_at marks e.literal.var ≡ false) × OnFalse e.decided (IsFreeLevel marks es)

-- each lawful assignment meets the clause
abbrev pub IsEntailed : (List Bool → Type 0) → List PLit → Type 0
IsEntailed Lawful clause = (assignment : List Bool) → Lawful assignment → IsTrue (meets_clause assignment clause)

-- each literal of the clause is false and marked, but for the one that is left out
abbrev pub IsMarkedBut : List Bool → List Entry → Option PLit → List PLit → Type 0
IsMarkedBut marks es but clause = All (λ x. (but ≡ Some x) ⊎ (IsFalseIn es x × IsTrue (value_at marks x.var))) clause

-- what some marks force, fewer marks force as well
abbrev pub IsAsStrong : (List Bool → Type 0) → List Entry → List Bool → List Bool → Type 0
IsAsStrong Lawful es fewer more = (assignment : List Bool) → Lawful assignment → AgreesMarked assignment fewer es → AgreesMarked assignment more es

-- each literal of the clause is false but for the one that is left out
abbrev pub IsShownBy : List Entry → Option PLit → List PLit → Type 0
IsShownBy es but clause = All (λ x. (but ≡ Some x) ⊎ IsFalseIn es x) clause

-- what a clause marks: each literal that is false but for the one that is left out, up to the first that is
-- not false; `shown` says that there is none such
pub record IsMarkedBy (es : List Entry) (but : Option PLit) (clause : List PLit) (old new : List Bool) (shown : Bool) : Type 0 where
  pub more : HasMarks new old
  pub only : (var : ℕ) → IsTrue (value_at new var) → IsTrue (value_at old var) ⊎ Any (λ x. (but ≢ Some x) × (x.var ≡ var)) clause
  pub marked : OnTrue shown (IsMarkedBut new es but clause)
  pub not_false : OnFalse shown (Any (λ x. (but ≢ Some x) × ¬ IsFalseIn es x) clause)

-- what positions of a list of variables mark
pub record IsMarkedAt (places positions : List ℕ) (old new : List Bool) : Type 0 where
  pub more : HasMarks new old
  pub only : (var : ℕ) → IsTrue (value_at new var) → IsTrue (value_at old var) ⊎ Any (λ p. (p < length places) × (slice_index places p ≡ var)) positions
  pub marked : All (λ p. p < length places → IsTrue (value_at new (slice_index places p))) positions

-- a literal, and the opposites of the marked literals among these
abbrev pub collected : PLit → List Bool → List Entry → List PLit
collected literal marks entries = literal ∷ map (λ (e : Entry). negated e.literal) (filter (λ (e : Entry). value_at marks e.literal.var) entries)
