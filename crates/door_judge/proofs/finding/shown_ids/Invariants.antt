use Rattle.std.proofs.Common.{◌≡◌, map, take}
use Rattle.std.specs.Prelude.{filter}
use Rattle.door_judge.specs.Tests.{is_there_and_shown, test_data}
use Rattle.door_judge.proofs.finding.shown_ids.Given as goal

abbrev pub invariant-loop-id : goal.invariant-loop-id
invariant-loop-id l = l.found.items ≡ filter (λ id. is_there_and_shown l.d l.m l.who (map test_data l.tests) id) (take l.id-index l.ids)
