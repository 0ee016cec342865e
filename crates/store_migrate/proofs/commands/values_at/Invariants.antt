use Rattle.std.proofs.Common.{◌≡◌, map, take}
use Rattle.type_schema.specs.Views.{init_of}
use Rattle.data_meaning.specs.Database.{Record}
use Rattle.data_meaning.specs.Run.{init_value}
use Rattle.data_records.specs.Views.{record_data, value_data}
use Rattle.store_migrate.proofs.commands.values_at.Given as goal

abbrev pub invariant-loop-made : goal.invariant-loop-made
invariant-loop-made l = map value_data l.values.items ≡ map (λ (r : Record). init_value l.database (init_of l.init) r.id) (map record_data (take l.made-index l.records))
