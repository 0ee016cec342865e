-- Assignments of truth values, and which of them a search is after.
-- An assignment is a list with one truth value for each variable.
use Rattle.std.specs.Prelude.{◌≡◌, ℕ, Bool, false, not, if◌then◌else◌, List, [], ◌∷◌, length, Option, Some, None, IsTrue, All, slice_index_or}
use Rattle.std.specs.List.{list_any, Contains}
use Rattle.solve_theory.specs.Models.{HasModel}
use Rattle.solve_solver.specs.declared.literal.PLit.{PLit}

-- the value of a variable
abbrev pub value_at : List Bool → ℕ → Bool
value_at assignment var = slice_index_or assignment var false

-- the value of a literal, by that of its variable
abbrev pub signed : PLit → Bool → Bool
signed l value = if l.plus then value else not value

abbrev pub literal_value : List Bool → PLit → Bool
literal_value assignment l = signed l (value_at assignment l.var)

-- the literal that is true where this one is false
abbrev pub negated : PLit → PLit
negated l = record { var = l.var; plus = not l.plus }

-- a clause is met by one true literal
abbrev pub meets_clause : List Bool → List PLit → Bool
meets_clause assignment clause = list_any (literal_value assignment) clause

-- the theory's literals: of each variable that has an atom, the one for its value
abbrev pub theory_literals : {L : Type 0} → List Bool → List (Option (L × L)) → List L
theory_literals [] atoms = []
theory_literals (value ∷ values) [] = []
theory_literals (value ∷ values) (None ∷ atoms) = theory_literals values atoms
theory_literals (value ∷ values) (Some pair ∷ atoms) = (if value then pair.0 else pair.1) ∷ theory_literals values atoms

-- a value for each variable that meets each clause and whose theory literals have a model
pub record IsLawful {M L : Type 0} (models : M → Bool) (meets : M → L → Bool) (vars : ℕ) (clauses : List (List PLit)) (atoms : List (Option (L × L))) (assignment : List Bool) : Type 0 where
  pub one_each : length assignment ≡ vars
  pub meets_each : All (λ clause. IsTrue (meets_clause assignment clause)) clauses
  pub has_model : HasModel models meets (theory_literals assignment atoms)

-- each literal of one list is in the other
pub record SameLiterals {L : Type 0} (xs ys : List L) : Type 0 where
  pub there : All (Contains ys) xs
  pub back : All (Contains xs) ys
