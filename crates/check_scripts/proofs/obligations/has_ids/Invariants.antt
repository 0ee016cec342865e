use Rattle.std.proofs.Common.{◌≤◌, take}
use Rattle.std.specs.List.{AllByRecursion}
use Rattle.data_meaning.specs.Values.{last_id}
use Rattle.check_scripts.proofs.obligations.has_ids.Given as goal

abbrev pub invariant-loop-size : goal.invariant-loop-size
invariant-loop-size l = AllByRecursion (λ n. n ≤ last_id) (take l.size-index l.sizes)
