-- A variable as a literal, and its negation.
use Rattle.std.specs.Prelude.{ℕ, true, false, Option, None, Some, List, [], ◌∷◌}
use Rattle.ground_gates.specs.declared.gate.Literal.{Literal}

abbrev pub is_true : ℕ → Literal
is_true x = record { var = x; plus = true }

abbrev pub is_false : ℕ → Literal
is_false x = record { var = x; plus = false }

-- that a variable is false, if there is one
abbrev pub is_none : Option ℕ → List Literal
is_none None = []
is_none (Some x) = is_false x ∷ []
