-- What is stored at first, and what an accepted script makes of it.
use Rattle.std.specs.Prelude.{◌≡◌, ◌+◌, [], ◌++◌}
use Rattle.type_schema.specs.Schema.{Schema}
use Rattle.type_schema.specs.Script.{Script, count, schema_at}
use Rattle.data_meaning.specs.Database.{Database}
use Rattle.data_meaning.specs.Run.{run_to, widened}
use Rattle.data_records.specs.Renumbered.{renumbered}
use Rattle.store_keeper.specs.Stored.{Stored}
use Rattle.store_apply.specs.Notes.{new_notes}
use Rattle.store_apply.specs.Settling.{IsRenumbered}

-- version 1, and no right weakened
abbrev pub initial_of : Schema → Database → Stored
initial_of s d = record { schema = s; version = 1; base = d; notes = [] }

-- The last schema, numbered anew; the next version; the database after the script, where the models that it creates have no records at first,
-- numbered likewise; and behind the old notes one for each right that the script weakens.
pub record IsApplied (s : Stored) (t : Script) (after : Stored) : Type 0 where
  pub schema : IsRenumbered (schema_at t (count t)) after.schema
  pub version : after.version ≡ s.version + 1
  pub base : after.base ≡ renumbered (schema_at t (count t)) (run_to t (count t) (widened t s.base))
  pub notes : after.notes ≡ s.notes ++ new_notes t after.version
