use Rattle.std.proofs.Common.{◌≡◌, ◌++◌, map, take}
use Rattle.data_members.proofs.touching.touch_field.Given as goal

abbrev pub invariant-loop-record : goal.invariant-loop-record
invariant-loop-record l = l.found.items ≡ l.fn.found.items ++ map (λ r. record { model = l.m; id = r.id; field = l.f }) (take l.record-index l.record-items)
