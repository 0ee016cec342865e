-- Potentials: assignments that meet each literal.
use Rattle.std.specs.Prelude.{◌≡◌, ℕ, ◌-◌, ◌^◌, ◌<◌, List, length, ℤ, pos, neg_ℤ, ◌+ℤ◌, ◌≤ℤ◌, IsTrue}
use Rattle.solve_order.specs.declared.diff.Diff.{Diff}
use Rattle.solve_order.specs.Difference.{Constraints, value_of, is_literal}
use Rattle.solve_order.specs.Edges.{literal_at}

-- a number in range for each variable, which is 0 for variable 0
pub record IsAssignment (variables : ℕ) (numbers : List ℤ) : Type 0 where
  pub as_long : length numbers ≡ variables
  pub zero : value_of numbers 0 ≡ pos 0
  pub low : (v : ℕ) → v < variables → neg_ℤ (pos (2 ^ 63)) ≤ℤ value_of numbers v
  pub high : (v : ℕ) → v < variables → value_of numbers v ≤ℤ pos (2 ^ 63 - 1)

abbrev pub Meets : List ℤ → Diff → Type 0
Meets numbers l = value_of numbers l.x ≤ℤ (value_of numbers l.y +ℤ l.c)

abbrev pub MeetsEach : List Diff → List ℤ → Type 0
MeetsEach literals numbers = (p : ℕ) → p < length literals → Meets numbers (literal_at literals p)

-- an assignment that meets each literal
pub record IsPotential (constraints : Constraints) (values : List ℤ) : Type 0 where
  pub as_long : constraints.variables ≡ length values
  pub short : length values < 2 ^ 32
  pub assigns : IsAssignment (length values) values
  pub over : (p : ℕ) → p < length constraints.literals → IsTrue (is_literal constraints.variables (literal_at constraints.literals p))
  pub meets_each : MeetsEach constraints.literals values
