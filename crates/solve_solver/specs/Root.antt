-- The literals that were set before any decision.
use Rattle.std.specs.Prelude.{◌≡◌, ℕ, ◌+◌, ◌-◌, Bool, false, List, length, drop, Some, IsTrue, All}
use Rattle.solve_solver.specs.declared.trail.Entry.{Entry}
use Rattle.solve_solver.specs.Assignment.{literal_value}
use Rattle.solve_solver.specs.Trail.{value_in}

-- the oldest literals of a trail, so many
abbrev pub oldest : ℕ → List Entry → List Entry
oldest n es = drop (length es - n) es

-- none of them was decided
abbrev pub AreImplied : List Entry → Type 0
AreImplied es = All (λ (e : Entry). e.decided ≡ false) es

-- the literal at a place of a trail, counted from the oldest on
pub record IsEntryAt (Lawful : List Bool → Type 0) (es : List Entry) (place : ℕ) (e : Entry) : Type 0 where
  pub value_is : value_in es e.literal.var ≡ Some e.literal.plus
  pub is_rooted : e.decided ≡ false → AreImplied (oldest place es) → (assignment : List Bool) → Lawful assignment → IsTrue (literal_value assignment e.literal)
  pub one_more : e.decided ≡ false → AreImplied (oldest place es) → AreImplied (oldest (place + 1) es)
