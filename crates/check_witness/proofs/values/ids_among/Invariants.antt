use Rattle.std.proofs.Common.{◌≡◌, ◌==◌, suc, map}
use Rattle.std.specs.Prelude.{filter}
use Rattle.std.specs.List.{list_any, range_with_len}
use Rattle.check_witness.proofs.values.ids_among.Given as goal

abbrev pub invariant-loop-y : goal.invariant-loop-y
invariant-loop-y l = l.ids ≡ map suc (filter (λ y. list_any (λ z. z == y) l.others) (range_with_len 0 l.y))
