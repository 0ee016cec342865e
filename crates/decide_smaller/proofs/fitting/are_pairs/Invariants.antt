use Rattle.std.proofs.Common.{ℕ, ◌<◌, get_or}
use Rattle.decide_smaller.specs.Fitting.{IsPairOf}
use Rattle.decide_smaller.proofs.fitting.are_pairs.Given as goal

abbrev pub invariant-loop-pair : goal.invariant-loop-pair
invariant-loop-pair l = (k : ℕ) (d : ℕ × ℕ) → k < l.pair-index → IsPairOf l.structure l.sig (get_or l.pairs k d)
