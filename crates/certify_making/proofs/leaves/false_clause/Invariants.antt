use Rattle.std.proofs.Common.{ℕ, ◌<◌}
use Rattle.certify_clauses.specs.Trees.{IsFalseClause}
use Rattle.certify_clauses.specs.InMemory.{problem_in}
use Rattle.certify_making.proofs.leaves.false_clause.Given as goal

abbrev pub invariant-loop-number : goal.invariant-loop-number
invariant-loop-number l = (n : ℕ) → n < l.number → IsFalseClause (problem_in l.c) l.path.literals n → ⊥
