-- Clauses that nothing meets.
use Rattle.std.specs.Prelude.{ℕ, Bool}
use Rattle.certify_clauses.specs.Problem.{IsLawfulAssignment, Problem}

-- no assignment is lawful
abbrev pub IsRefuted : Problem → Type 0
IsRefuted c = (a : ℕ → Bool) → IsLawfulAssignment c a → ⊥
