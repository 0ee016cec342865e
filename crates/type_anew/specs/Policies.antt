-- Expressions, sets and policies with other numbers of statics, models and fields.
use Rattle.std.specs.Prelude.{ℕ, ◌==◌}
use Rattle.std.specs.List.{position_or_len}
use Rattle.type_schema.specs.Trees.{Expr, flag, num, str, var, nothing, just, get, equal, iff, less, within, negation, both, either, if_expr, match_expr, SetExpr, everyone, nobody, listed, union, minus, find, path, mapped, flat_mapped, if_set, match_set, Items, no_items, static_item, record_item, Filters, no_filters, filter_and, Policy, to_all, to_none, by_record}
use Rattle.type_schema.specs.Schema.{StaticInfo, Schema}
use Rattle.data_meaning.specs.declared.principals.Principal.{Principal}
use Rattle.data_meaning.specs.declared.principals.Principal.TheVariants.{Static, Rec}
use Rattle.data_records.specs.Renumbered.{new_field, new_model}

-- the new number of a static: how many statics stand before it
abbrev pub new_static : Schema → ℕ → ℕ
new_static s n = position_or_len (λ (info : StaticInfo). info.number == n) s.statics

-- the principal over the schema numbered anew
abbrev pub renumbered_principal : Schema → Principal → Principal
renumbered_principal s (Static n) = Static (new_static s n)
renumbered_principal s (Rec m id) = Rec (new_model s.models m) id

module _ (s : Schema) where
  abbrev mutual
    pub renumbered_expr : Expr → Expr
    renumbered_expr (flag b) = flag b
    renumbered_expr (num n) = num n
    renumbered_expr (str bytes) = str bytes
    renumbered_expr (var depth name) = var depth name
    renumbered_expr nothing = nothing
    renumbered_expr (just e) = just (renumbered_expr e)
    renumbered_expr (get e m f) = get (renumbered_expr e) (new_model s.models m) (new_field s.models m f)
    renumbered_expr (equal a b op) = equal (renumbered_expr a) (renumbered_expr b) op
    renumbered_expr (iff a b op) = iff (renumbered_expr a) (renumbered_expr b) op
    renumbered_expr (less a b op) = less (renumbered_expr a) (renumbered_expr b) op
    renumbered_expr (within e m set) = within (renumbered_expr e) (new_model s.models m) (renumbered_set set)
    renumbered_expr (negation e) = negation (renumbered_expr e)
    renumbered_expr (both a b) = both (renumbered_expr a) (renumbered_expr b)
    renumbered_expr (either a b) = either (renumbered_expr a) (renumbered_expr b)
    renumbered_expr (if_expr c a b) = if_expr (renumbered_expr c) (renumbered_expr a) (renumbered_expr b)
    renumbered_expr (match_expr e a name c) = match_expr (renumbered_expr e) (renumbered_expr a) name (renumbered_expr c)

    pub renumbered_set : SetExpr → SetExpr
    renumbered_set everyone = everyone
    renumbered_set nobody = nobody
    renumbered_set (listed items) = listed (renumbered_items items)
    renumbered_set (union a b) = union (renumbered_set a) (renumbered_set b)
    renumbered_set (minus a b) = minus (renumbered_set a) (renumbered_set b)
    renumbered_set (find m filters) = find (new_model s.models m) (renumbered_filters m filters)
    renumbered_set (path m e) = path (new_model s.models m) (renumbered_expr e)
    renumbered_set (mapped set n name m e) = mapped (renumbered_set set) (new_model s.models n) name (new_model s.models m) (renumbered_expr e)
    renumbered_set (flat_mapped set n name body) = flat_mapped (renumbered_set set) (new_model s.models n) name (renumbered_set body)
    renumbered_set (if_set c a b) = if_set (renumbered_expr c) (renumbered_set a) (renumbered_set b)
    renumbered_set (match_set e a name c) = match_set (renumbered_expr e) (renumbered_set a) name (renumbered_set c)

    pub renumbered_items : Items → Items
    renumbered_items no_items = no_items
    renumbered_items (static_item n items) = static_item (new_static s n) (renumbered_items items)
    renumbered_items (record_item m e items) = record_item (new_model s.models m) (renumbered_expr e) (renumbered_items items)

    -- on records of the model
    pub renumbered_filters : (model : ℕ) → Filters → Filters
    renumbered_filters m no_filters = no_filters
    renumbered_filters m (filter_and f op e filters) = filter_and (new_field s.models m f) op (renumbered_expr e) (renumbered_filters m filters)

  abbrev pub renumbered_policy : Policy → Policy
  renumbered_policy to_all = to_all
  renumbered_policy to_none = to_none
  renumbered_policy (by_record name set) = by_record name (renumbered_set set)
