use Rattle.std.proofs.Common.{◌≡◌, ℕ, ◌<◌, false, Some}
use Rattle.std.specs.Prelude.{slice_get, unwrap_or}
use Rattle.ground_problem.specs.declared.facts.FactNode.{FactNode}
use Rattle.decide_reading.specs.Columns.{IsSo}
use Rattle.decide_reading.proofs.check.check_facts.Given as goal

abbrev pub invariant-loop-k : goal.invariant-loop-k
invariant-loop-k l =
    (j : ℕ) (p : FactNode) → j < l.k → slice_get l.facts j ≡ Some p
    → IsSo l.source.arena.now l.source.terms.now l.source.pairs.now l.source.columns.now p (unwrap_or (slice_get l.values j) false)
