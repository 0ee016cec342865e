-- The database that a file writes, for `init`.
use Rattle.std.specs.Prelude.{◌≡◌, ⊤, ℕ, List, Option, Ok, Err}
use Rattle.app_flow.specs.Files.{Files}
use Rattle.app_files.specs.declared.refusal.Refusal.TheVariants as refusal
use Rattle.app_files.specs.declared.stop.Stop.TheVariants as stop
use Rattle.app_files.specs.Loads.{FetchesWithin}
use Rattle.app_files.specs.Stages.{Then, Stopping}
use Rattle.type_schema.specs.Schema.{Schema}
use Rattle.data_meaning.specs.Database.{Database}
use Rattle.data_judge.specs.declared.limits.Limits.TheVariants.{Asked}
use Rattle.data_read.specs.declared.read_err.ReadErr.{ReadErr}
use Rattle.data_read.specs.declared.read_err.ReadErr.TheVariants as err
use Rattle.data_read.specs.Reading.{IsRead, IsRefusedAs}
use Rattle.app_store.specs.declared.limits.TheConstants.{MOST_DATA_BYTES}
use Rattle.app_store.specs.declared.stop.StoreRefusal.{StoreRefusal}
use Rattle.app_store.specs.declared.stop.StoreRefusal.TheVariants.{IsSet, IsEmpty, IsSpent, Data}
use Rattle.app_store.specs.declared.stop.StoreStop.TheVariants as store
use Rattle.app_store.specs.Stages.{StoreStage}

-- the text has tokens that spell tables, and yet writes no database, for this cause
abbrev pub IsOfTables : ReadErr → Type 0
IsOfTables (err.Syntax e) = ⊥
IsOfTables (err.Unknown at) = ⊤
IsOfTables (err.Absent at) = ⊤
IsOfTables (err.Twice at) = ⊤
IsOfTables (err.WrongShape at) = ⊤
IsOfTables (err.BadId at) = ⊤
IsOfTables (err.Dangling at) = ⊤
IsOfTables (err.Full what) = ⊤
IsOfTables err.OutOfMemory = ⊥

module _ (name : List ℕ) (s : Schema) (text : List ℕ) where
  abbrev pub IsNoData : StoreRefusal → Type 0
  IsNoData IsSet = ⊥
  IsNoData IsEmpty = ⊥
  IsNoData IsSpent = ⊥
  IsNoData (Data n e) = (n ≡ name) × IsOfTables e × IsRefusedAs Asked s text e

  -- The text writes this database over the schema; or it is refused for the cause that it has, with the name of its file.
  abbrev pub DataOf : StoreStage Database
  DataOf (Ok d) = IsRead Asked s text d
  DataOf (Err (store.Files (stop.Refused (refusal.Text n e)))) = (n ≡ name) × IsRefusedAs Asked s text (err.Syntax e)
  DataOf (Err (store.Files (stop.Refused refusal.Usage))) = ⊥
  DataOf (Err (store.Files (stop.Refused (refusal.Missing n)))) = ⊥
  DataOf (Err (store.Files (stop.Refused (refusal.TooLong n)))) = ⊥
  DataOf (Err (store.Files (stop.Refused (refusal.SpecTypes n e)))) = ⊥
  DataOf (Err (store.Files (stop.Refused (refusal.ScriptTypes n fault)))) = ⊥
  DataOf (Err (store.Files stop.ReadFault)) = ⊥
  DataOf (Err (store.Files stop.OutOfMemory)) = ⊤
  DataOf (Err (store.Refused refusal)) = IsNoData refusal
  DataOf (Err store.StoreFault) = ⊥

-- The file of that name is fetched, and writes this database over the schema.
abbrev pub DataOfFile : Option Files → List ℕ → Schema → StoreStage Database
DataOfFile told name s = Then (Stopping store.Files (FetchesWithin MOST_DATA_BYTES told name)) (DataOf name s)
