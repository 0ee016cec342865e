-- Runs of scripts go from databases to databases.
use Rattle.std.specs.Prelude.{◌≤◌, ℕ}
use Rattle.type_schema.specs.Script.{Script, schema_at, count, IsScript}
use Rattle.data_meaning.specs.Database.{Database, IsDatabase, HasNoFurtherTables}
use Rattle.data_meaning.specs.Run.{run_to, widened}
use Rattle.data_meaning.specs.Gain.{IsStart}

-- After each command of a run from a start database, the database is one over the schema that is there after the command.
abbrev pub RunsKeepDatabases : Type 0
RunsKeepDatabases = (t : Script) → IsScript t → (d : Database) → IsStart t d → (k : ℕ) → k ≤ count t → IsDatabase (schema_at t k) (run_to t k d)

-- A database over the schema before the script, widened, is one to start from.
abbrev pub WidenedStarts : Type 0
WidenedStarts = (t : Script) → IsScript t → (d : Database) → IsDatabase (schema_at t 0) d → HasNoFurtherTables (schema_at t 0) d → IsStart t (widened t d)
