-- Who uses a field, a model or a static.
use Rattle.std.specs.Prelude.{ℕ, Bool, false, not, ◌==◌, ◌&&◌, ◌||◌, List, [], ◌∷◌, ◌++◌, Option}
use Rattle.std.specs.List.{find, flat_map}
use Rattle.std.specs.Option.{option_map}
use Rattle.type_schema.specs.declared.types.TBase.{TBase}
use Rattle.type_schema.specs.declared.types.TBase.TheVariants as base
use Rattle.type_schema.specs.declared.types.TTy.{TTy}
use Rattle.type_schema.specs.declared.types.TTy.TheVariants.{Plain, Set, Opt}
use Rattle.type_schema.specs.declared.rights.Right.{Right}
use Rattle.type_schema.specs.declared.rights.Right.TheVariants.{Read, Write, Create, Delete}
use Rattle.type_schema.specs.declared.rights.Target.{Target}
use Rattle.type_schema.specs.declared.rights.Target.TheVariants as on
use Rattle.type_schema.specs.Trees.{Expr, flag, num, str, var, nothing, just, get, equal, iff, less, within, negation, both, either, if_expr, match_expr, SetExpr, everyone, nobody, listed, union, minus, find as find_set, path, mapped, flat_mapped, if_set, match_set, Items, no_items, static_item, record_item, Filters, no_filters, filter_and, Policy, to_all, to_none, by_record}
use Rattle.type_schema.specs.Schema.{FieldInfo, ModelInfo, Schema}
use Rattle.type_typing.specs.declared.type_err.UsedBy.{UsedBy}
use Rattle.type_typing.specs.declared.type_err.UsedBy.TheVariants as by
use Rattle.type_commands.specs.declared.thing.Thing.{Thing}
use Rattle.type_commands.specs.declared.thing.Thing.TheVariants as the

-- ---- what trees use: a field where it is read or filtered by, a model where its records are sought, a static where it is listed

abbrev pub is_field : Thing → ℕ → ℕ → Bool
is_field (the.Field m f) n g = (m == n) && (f == g)
is_field (the.Model m) n g = false
is_field (the.Static k) n g = false

abbrev pub is_model : Thing → ℕ → Bool
is_model (the.Field m f) n = false
is_model (the.Model m) n = m == n
is_model (the.Static k) n = false

abbrev pub is_static : Thing → ℕ → Bool
is_static (the.Field m f) n = false
is_static (the.Model m) n = false
is_static (the.Static k) n = k == n

module _ (thing : Thing) where
  abbrev mutual
    pub expr_uses : Expr → Bool
    expr_uses (flag b) = false
    expr_uses (num n) = false
    expr_uses (str bytes) = false
    expr_uses (var depth name) = false
    expr_uses nothing = false
    expr_uses (just e) = expr_uses e
    expr_uses (get e m f) = expr_uses e || is_field thing m f
    expr_uses (equal a b op) = expr_uses a || expr_uses b
    expr_uses (iff a b op) = expr_uses a || expr_uses b
    expr_uses (less a b op) = expr_uses a || expr_uses b
    expr_uses (within e m set) = expr_uses e || set_uses set
    expr_uses (negation e) = expr_uses e
    expr_uses (both a b) = expr_uses a || expr_uses b
    expr_uses (either a b) = expr_uses a || expr_uses b
    expr_uses (if_expr c a b) = expr_uses c || expr_uses a || expr_uses b
    expr_uses (match_expr e a name c) = expr_uses e || expr_uses a || expr_uses c

    pub set_uses : SetExpr → Bool
    set_uses everyone = false
    set_uses nobody = false
    set_uses (listed items) = items_use items
    set_uses (union a b) = set_uses a || set_uses b
    set_uses (minus a b) = set_uses a || set_uses b
    set_uses (find_set m filters) = is_model thing m || filters_use m filters
    set_uses (path m e) = expr_uses e
    set_uses (mapped set n name m e) = set_uses set || expr_uses e
    set_uses (flat_mapped set n name body) = set_uses set || set_uses body
    set_uses (if_set c a b) = expr_uses c || set_uses a || set_uses b
    set_uses (match_set e a name c) = expr_uses e || set_uses a || set_uses c

    pub items_use : Items → Bool
    items_use no_items = false
    items_use (static_item n items) = is_static thing n || items_use items
    items_use (record_item m e items) = expr_uses e || items_use items

    -- filters on records of the model
    pub filters_use : ℕ → Filters → Bool
    filters_use m no_filters = false
    filters_use m (filter_and f op e filters) = is_field thing m f || expr_uses e || filters_use m filters

  abbrev pub policy_uses : Policy → Bool
  policy_uses to_all = false
  policy_uses to_none = false
  policy_uses (by_record name set) = set_uses set

  -- a type uses the model whose ids it has
  abbrev pub base_uses : TBase → Bool
  base_uses base.Bool = false
  base_uses base.Int = false
  base_uses base.Text = false
  base_uses (base.Id m) = is_model thing m

  abbrev pub type_uses : TTy → Bool
  type_uses (Plain b) = base_uses b
  type_uses (Set m) = is_model thing m
  type_uses (Opt b) = base_uses b

-- ---- the users of a schema, in its order

pub data User : Type 0 where
  policy_of_right : Target → Right → Policy → User
  type_of_field : (model field : ℕ) → TTy → User

abbrev pub field_users : ℕ → FieldInfo → List User
field_users m f =
    type_of_field m f.number f.ty ∷ policy_of_right (on.Field m f.number) Read f.read ∷ policy_of_right (on.Field m f.number) Write f.write ∷ []

abbrev pub right_users : ModelInfo → List User
right_users info = policy_of_right (on.Model info.number) Create info.create ∷ policy_of_right (on.Model info.number) Delete info.delete ∷ []

abbrev pub model_users : ModelInfo → List User
model_users info = right_users info ++ flat_map (field_users info.number) info.fields

abbrev pub users : Schema → List User
users s = flat_map model_users s.models

abbrev pub named_user : User → UsedBy
named_user (policy_of_right target right policy) = by.Policy target right
named_user (type_of_field m f ty) = by.FieldType m f

abbrev pub uses : Thing → User → Bool
uses thing (policy_of_right target right policy) = policy_uses thing policy
uses thing (type_of_field m f ty) = type_uses thing ty

-- ---- what is removed with the thing, and so does not hold it

abbrev pub field_goes : Thing → ℕ → ℕ → Bool
field_goes (the.Field m f) n g = (n == m) && (g == f)
field_goes (the.Model m) n g = n == m
field_goes (the.Static k) n g = false

abbrev pub model_goes : Thing → ℕ → Bool
model_goes (the.Field m f) n = false
model_goes (the.Model m) n = n == m
model_goes (the.Static k) n = false

abbrev pub target_goes : Thing → Target → Bool
target_goes thing (on.Field m f) = field_goes thing m f
target_goes thing (on.Model m) = model_goes thing m

abbrev pub goes_with : Thing → User → Bool
goes_with thing (policy_of_right target right policy) = target_goes thing target
goes_with thing (type_of_field m f ty) = field_goes thing m f

-- the first of them who would miss it
abbrev pub first_missing : Thing → List User → Option UsedBy
first_missing thing all = option_map named_user (find (λ user. not (goes_with thing user) && uses thing user) all)

unfoldable pub first_user : Schema → Thing → Option UsedBy
first_user s thing = first_missing thing (users s)
