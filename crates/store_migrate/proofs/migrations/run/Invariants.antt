use Rattle.std.proofs.Common.{◌≡◌}
use Rattle.type_schema.specs.SchemaViews.{script_of}
use Rattle.data_meaning.specs.Run.{run_to}
use Rattle.store_migrate.proofs.migrations.run.Given as goal

abbrev pub invariant-loop-at : goal.invariant-loop-at
invariant-loop-at l = l.database ≡ run_to (script_of l.t) l.at l.initial.database
