use Rattle.std.proofs.Common.{◌≡◌, ◌++◌, map, take}
use Rattle.data_meaning.specs.Database.{Record}
use Rattle.data_records.specs.Views.{record_data}
use Rattle.online_meaning.proofs.Waits.{named}
use Rattle.online_ground.proofs.slow.add_names.Given as goal

abbrev pub invariant-loop-made : goal.invariant-loop-made
invariant-loop-made l = l.names.items ≡ l.initial.names.items ++ map (named l.model) (map (λ (r : Record). r.id) (map record_data (take l.made-index l.records)))
