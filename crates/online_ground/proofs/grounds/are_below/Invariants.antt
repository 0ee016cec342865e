use Rattle.std.proofs.Common.{◌<◌, map, take}
use Rattle.std.specs.List.{AllByRecursion}
use Rattle.type_schema.specs.Uses.{Use}
use Rattle.duty_listing.specs.Uses.{use_data}
use Rattle.online_ground.proofs.grounds.are_below.Given as goal

abbrev pub invariant-loop-used : goal.invariant-loop-used
invariant-loop-used l = AllByRecursion (λ (u : Use). u.field < l.next) (map use_data (take l.used-index l.uses))
