-- Databases that agree on what is touched.
use Rattle.std.specs.Prelude.{◌≡◌, ℕ, List}
use Rattle.std.specs.List.{AllByRecursion}
use Rattle.type_schema.specs.Trees.{Expr, SetExpr, Init}
use Rattle.data_meaning.specs.declared.principals.Principal.{Principal}
use Rattle.data_meaning.specs.Database.{Database, ids_of, field_at}
use Rattle.data_meaning.specs.declared.cells.Cell.{Cell}
use Rattle.data_meaning.specs.Meaning.{Env, value_of, member}
use Rattle.data_meaning.specs.Touched.{touched, set_touched, init_touched}
use Rattle.data_meaning.specs.Run.{init_value}

-- each model has records of the same ids
abbrev pub HaveSameIds : Database → Database → Type 0
HaveSameIds d e = (m : ℕ) → ids_of d m ≡ ids_of e m

abbrev pub IsSameCell : Database → Database → Cell → Type 0
IsSameCell d e cell = field_at d cell.model cell.id cell.field ≡ field_at e cell.model cell.id cell.field

abbrev pub AreSameCells : Database → Database → List Cell → Type 0
AreSameCells d e cells = AllByRecursion (IsSameCell d e) cells

-- What is touched on the one database settles the value, who is in the set, and what is touched, on the other too.
pub record TouchedSettles (d e : Database) : Type 0 where
  pub of_expr : (env : Env) (x : Expr) → AreSameCells d e (touched d env x)
      → (value_of d env x ≡ value_of e env x) × (touched d env x ≡ touched e env x)
  pub of_set : (env : Env) (x : SetExpr) → AreSameCells d e (set_touched d env x)
      → ((q : Principal) → member d env x q ≡ member e env x q) × (set_touched d env x ≡ set_touched e env x)
  pub of_init : (init : Init) (id : ℕ) → AreSameCells d e (init_touched d init id)
      → (init_value d init id ≡ init_value e init id) × (init_touched d init id ≡ init_touched e init id)

-- the law of touched cells
abbrev pub TouchedSettlesAll : Type 0
TouchedSettlesAll = (d e : Database) → HaveSameIds d e → TouchedSettles d e
