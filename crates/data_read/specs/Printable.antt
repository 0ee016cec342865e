-- Databases whose printed text is read as them.
use Rattle.type_schema.specs.Schema.{Schema}
use Rattle.type_schema.specs.Proper.{IsProper}
use Rattle.data_meaning.specs.Database.{Database, IsDatabase, IsInOrder}
use Rattle.data_read.specs.Words.{HasWords}

-- a database over a proper schema whose names are words, with the tables of its models in their order and no further ones
pub record IsPrintable (s : Schema) (d : Database) : Type 0 where
  pub proper : IsProper s
  pub words : HasWords s
  pub database : IsDatabase s d
  pub order : IsInOrder s d
