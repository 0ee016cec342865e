use Rattle.std.proofs.Common.{◌≡◌, ◌==◌, map, take}
use Rattle.std.specs.Prelude.{filter}
use Rattle.check_witness.proofs.values.related.Given as goal

abbrev pub invariant-loop-pair : goal.invariant-loop-pair
invariant-loop-pair l = l.others.items ≡ map (λ p. p.1) (filter (λ p. p.0 == l.x) (take l.pair-index l.pairs))
