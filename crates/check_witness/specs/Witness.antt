-- Witnesses: a start database on which somebody gains a right, or reads what nobody let them read.
use Rattle.std.specs.Prelude.{ℕ, Option}
use Rattle.type_schema.specs.declared.rights.Right.{Right}
use Rattle.type_schema.specs.declared.rights.Target.{Target}
use Rattle.data_meaning.specs.declared.principals.Principal.{Principal}
use Rattle.data_meaning.specs.Database.{Database}
use Rattle.data_meaning.specs.declared.cells.Cell.{Cell}

-- The command and the right that it gives on the target, the start database, the id of the record and the principal who has the right on
-- it; for a flow leak the cell that is read.
pub record Witness : Type 0 where
  pub command : ℕ
  pub target : Target
  pub right : Right
  pub base : Database
  pub row : ℕ
  pub who : Principal
  pub cell : Option Cell
