use Rattle.std.proofs.Common.{◌≡◌, map, drop}
use Rattle.door_judge.specs.Tests.{may_read_all, test_data}
use Rattle.door_judge.proofs.finding.may_read_all.Given as goal

-- whether all may be read is settled by those that are left
abbrev pub invariant-loop-test : goal.invariant-loop-test
invariant-loop-test l = may_read_all l.d l.who (map test_data (drop l.test-index l.tests)) l.id ≡ may_read_all l.d l.who (map test_data l.tests) l.id
