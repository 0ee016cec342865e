use Rattle.std.proofs.Common.{◌≡◌, ℕ, ◌<◌, None}
use Rattle.certify_clauses.specs.Paths.{value_on}
use Rattle.certify_making.proofs.splits.first_open.Given as goal

abbrev pub invariant-loop-var : goal.invariant-loop-var
invariant-loop-var l = (v : ℕ) → v < l.var → value_on l.path.literals v ≡ None → ⊥
