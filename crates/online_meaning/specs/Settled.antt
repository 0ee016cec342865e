-- Databases that agree on what is touched, and on the records of the models on which there is a `Find`.
use Rattle.std.specs.Prelude.{◌≡◌, ℕ, true, List}
use Rattle.std.specs.List.{AllByRecursion}
use Rattle.type_schema.specs.declared.types.TTy.{TTy}
use Rattle.type_schema.specs.Trees.{Expr, SetExpr, Init}
use Rattle.type_schema.specs.Schema.{Schema}
use Rattle.type_schema.specs.Typing.{HasModel, Scope, Content, IsExpr, IsSet, IsInit, IsType}
use Rattle.data_meaning.specs.declared.principals.Principal.{Principal}
use Rattle.data_meaning.specs.Database.{Database, ids_of, has_record, IsDatabase}
use Rattle.data_meaning.specs.Meaning.{Env, value_of, member}
use Rattle.data_meaning.specs.Touched.{touched, set_touched, init_touched}
use Rattle.data_meaning.specs.Run.{init_value}
use Rattle.data_meaning.specs.Agreeing.{AreSameCells}
use Rattle.data_meaning.specs.Sound.{AreHeld}
use Rattle.online_meaning.specs.Finds.{finds_of, set_finds_of, init_finds_of}

-- each of these models has records of the same ids
abbrev pub HaveSameRecords : Database → Database → List ℕ → Type 0
HaveSameRecords d e models = AllByRecursion (λ m. ids_of d m ≡ ids_of e m) models

-- What is touched on the one database, with the ids of the models on which there is a `Find`, settles the value of what is well typed,
-- who is in the set, and what is touched, on the other too. The variables have values that are there in both.
pub record FindsSettle (s : Schema) (d e : Database) : Type 0 where
  pub of_expr : (scope : Scope) (env : Env) → AreHeld d scope env → AreHeld e scope env → (t : TTy) (x : Expr) → IsExpr s scope t x
      → AreSameCells d e (touched d env x) → HaveSameRecords d e (finds_of x)
      → (value_of d env x ≡ value_of e env x) × (touched d env x ≡ touched e env x)
  pub of_set : (scope : Scope) (env : Env) → AreHeld d scope env → AreHeld e scope env → (w : Content) (x : SetExpr) → IsSet s scope w x
      → AreSameCells d e (set_touched d env x) → HaveSameRecords d e (set_finds_of x)
      → ((q : Principal) → member d env x q ≡ member e env x q) × (set_touched d env x ≡ set_touched e env x)
  pub of_init : (m id : ℕ) → HasModel s m → has_record d m id ≡ true → has_record e m id ≡ true → (t : TTy) (init : Init) → IsType s t → IsInit s m t init
      → AreSameCells d e (init_touched d init id) → HaveSameRecords d e (init_finds_of init)
      → (init_value d init id ≡ init_value e init id) × (init_touched d init id ≡ init_touched e init id)

-- the law of touched cells and found models
abbrev pub FindsSettleAll : Type 0
FindsSettleAll = (s : Schema) (d e : Database) → IsDatabase s d → IsDatabase s e → FindsSettle s d e
