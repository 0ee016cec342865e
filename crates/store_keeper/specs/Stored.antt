-- What a store holds.
use Rattle.std.specs.Prelude.{ℕ, ◌≤◌, List}
use Rattle.type_schema.specs.Schema.{Schema}
use Rattle.type_schema.specs.SchemaViews.{schema_of}
use Rattle.type_proper.specs.Steady.{IsSteady}
use Rattle.type_anew.specs.RenumberedAnew.{IsAnew}
use Rattle.type_anew.specs.Room.{IsWithinNumbers, IsWithinSizes}
use Rattle.type_anew.specs.Told.{IsTold}
use Rattle.data_meaning.specs.Database.{Database, HasNoFurtherTables, IsDatabase, IsInOrder}
use Rattle.store_keeper.specs.declared.limits.TheConstants.{LAST_VERSION}
use Rattle.store_keeper.specs.declared.stored.Note.{Note}
use Rattle.store_keeper.specs.declared.stored.Stored as code

abbrev pub last_version : ℕ
last_version = LAST_VERSION

-- a schema and a database over it, how often it was migrated, counted from 1, and the rights that were weakened, in their order
pub record Stored : Type 0 where
  pub schema : Schema
  pub version : ℕ
  pub base : Database
  pub notes : List Note

-- the plain data that a `Stored` of the code stands for
abbrev pub stored_of : code.Stored → Stored
stored_of s = record { schema = schema_of s.schema; version = s.version; base = s.base; notes = s.notes }

-- The schema is proper, told by the tree that it is written as, within the limits of specifications, and numbered anew, with no field that a
-- script added: it is what it is when it is numbered anew.
pub record IsSettled (s : Schema) : Type 0 where
  pub steady : IsSteady s
  pub told : IsTold s
  pub numbers : IsWithinNumbers s
  pub sizes : IsWithinSizes s
  pub anew : IsAnew s s

-- what a store may hold: the database has the tables of the schema's models in their order, and no further ones
pub record IsStored (s : Stored) : Type 0 where
  pub first : 1 ≤ s.version
  pub last : s.version ≤ last_version
  pub settled : IsSettled s.schema
  pub database : IsDatabase s.schema s.base
  pub no_further : HasNoFurtherTables s.schema s.base
  pub order : IsInOrder s.schema s.base
