use Rattle.std.proofs.Common.{◌≡◌, map, take}
use Rattle.std.specs.Prelude.{filter}
use Rattle.data_records.specs.Views.{record_data}
use Rattle.door_judge.specs.Tests.{is_shown_at, test_data}
use Rattle.door_judge.proofs.finding.shown_among.Given as goal

abbrev pub invariant-loop-row : goal.invariant-loop-row
invariant-loop-row l = l.found.items ≡ map (λ r. r.id) (filter (λ r. is_shown_at l.d l.who (map test_data l.tests) (record_data r)) (take l.row-index l.records))
