use Rattle.std.proofs.Common.{◌≡◌, ◌++◌, map, take}
use Rattle.type_schema.specs.Script.{created}
use Rattle.type_schema.specs.SchemaViews.{command_of}
use Rattle.data_records.specs.Inserted.{empty_table}
use Rattle.store_migrate.proofs.migrations.add_all_created.Given as goal

abbrev pub invariant-loop-command : goal.invariant-loop-command
invariant-loop-command l = l.database ≡ l.initial.database ++ map empty_table (created (map command_of (take l.command-index l.commands)))
