-- Values of well typed expressions.
use Rattle.std.specs.Prelude.{◌≡◌, ℕ, true, [], ◌∷◌}
use Rattle.type_schema.specs.declared.types.TTy.{TTy}
use Rattle.type_schema.specs.Trees.{Expr, SetExpr}
use Rattle.type_schema.specs.Schema.{Schema}
use Rattle.type_schema.specs.Typing.{Scope, records, IsExpr, IsSet}
use Rattle.data_meaning.specs.declared.principals.Principal.{Principal}
use Rattle.data_meaning.specs.declared.principals.Principal.TheVariants.{Static, Rec}
use Rattle.data_meaning.specs.Values.{Value, IsValueOf}
use Rattle.data_meaning.specs.Database.{Database, has_record, IsDatabase, IsIntact}
use Rattle.data_meaning.specs.Meaning.{Env, value_of, member}

-- a value of the type whose ids are there
abbrev pub IsHeld : Database → TTy → Value → Type 0
IsHeld d t v = IsValueOf t v × IsIntact d t v

-- the variables have values of their types
abbrev pub AreHeld : Database → Scope → Env → Type 0
AreHeld d [] [] = Unit {0}
AreHeld d [] (v ∷ env) = ⊥
AreHeld d (t ∷ scope) [] = ⊥
AreHeld d (t ∷ scope) (v ∷ env) = IsHeld d t v × AreHeld d scope env

-- A well typed expression has a value of its type, and each id in it names a record that is there.
abbrev pub ValuesAreTyped : Type 0
ValuesAreTyped = (s : Schema) (d : Database) → IsDatabase s d → (scope : Scope) (env : Env) → AreHeld d scope env
    → (t : TTy) (x : Expr) → IsExpr s scope t x → IsHeld d t (value_of d env x)

abbrev pub IsRecordThere : Database → ℕ → Principal → Type 0
IsRecordThere d m (Static n) = ⊥
IsRecordThere d m (Rec n id) = (n ≡ m) × (has_record d m id ≡ true)

-- What is in a set of records of a model is such a record, and is there.
abbrev pub MembersAreThere : Type 0
MembersAreThere = (s : Schema) (d : Database) → IsDatabase s d → (scope : Scope) (env : Env) → AreHeld d scope env
    → (m : ℕ) (x : SetExpr) → IsSet s scope (records m) x → (q : Principal) → member d env x q ≡ true → IsRecordThere d m q
