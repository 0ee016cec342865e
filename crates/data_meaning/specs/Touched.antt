-- The cells that the value of an expression, or who is in a set, is read from.
use Rattle.std.specs.Prelude.{ℕ, List, [], ◌∷◌, ◌++◌, map, if◌then◌else◌}
use Rattle.std.specs.List.{flat_map}
use Rattle.type_schema.specs.Trees.{Expr, flag, num, str, var, nothing, just, get, equal, iff, less, within, negation, both, either, if_expr, match_expr, SetExpr, everyone, nobody, listed, union, minus, find, path, mapped, flat_mapped, if_set, match_set, Items, no_items, static_item, record_item, Filters, no_filters, filter_and, Init, plain, of_set}
use Rattle.data_meaning.specs.declared.principals.Principal.TheVariants.{Rec}
use Rattle.data_meaning.specs.Values.{Id}
use Rattle.data_meaning.specs.Database.{Database, ids_of}
use Rattle.data_meaning.specs.declared.cells.Cell.{Cell}
use Rattle.data_meaning.specs.Meaning.{Env, truth_of, id_of, taken_apart, value_of, member}

module _ (d : Database) where
  abbrev mutual
    -- Both sides of an operator are read, of `if` and `match` the condition and the branch taken.
    pub touched : Env → Expr → List Cell
    touched env (flag b) = []
    touched env (num n) = []
    touched env (str bytes) = []
    touched env (var depth name) = []
    touched env nothing = []
    touched env (just e) = touched env e
    touched env (get e m f) = touched env e ++ (record { model = m; id = id_of (value_of d env e); field = f }) ∷ []
    touched env (equal a b op) = touched env a ++ touched env b
    touched env (iff a b op) = touched env a ++ touched env b
    touched env (less a b op) = touched env a ++ touched env b
    touched env (within e m set) = touched env e ++ set_touched env set
    touched env (negation e) = touched env e
    touched env (both a b) = touched env a ++ touched env b
    touched env (either a b) = touched env a ++ touched env b
    touched env (if_expr c a b) = touched env c ++ (if truth_of (value_of d env c) then touched env a else touched env b)
    touched env (match_expr e a name c) = touched env e ++ taken_apart (value_of d env e) (touched env a) (λ v. touched (env ++ v ∷ []) c)

    -- The body of `map` and of `flat_map` is read at each record that is in the source.
    pub set_touched : Env → SetExpr → List Cell
    set_touched env everyone = []
    set_touched env nobody = []
    set_touched env (listed items) = items_touched env items
    set_touched env (union a b) = set_touched env a ++ set_touched env b
    set_touched env (minus a b) = set_touched env a ++ set_touched env b
    set_touched env (find m filters) = filters_touched env m filters
    set_touched env (path m e) = touched env e
    set_touched env (mapped set n name m e) =
        set_touched env set ++ flat_map (λ y. if member d env set (Rec n y) then touched (env ++ Id y ∷ []) e else []) (ids_of d n)
    set_touched env (flat_mapped set n name body) =
        set_touched env set ++ flat_map (λ y. if member d env set (Rec n y) then set_touched (env ++ Id y ∷ []) body else []) (ids_of d n)
    set_touched env (if_set c a b) = touched env c ++ (if truth_of (value_of d env c) then set_touched env a else set_touched env b)
    set_touched env (match_set e a name c) =
        touched env e ++ taken_apart (value_of d env e) (set_touched env a) (λ v. set_touched (env ++ v ∷ []) c)

    pub items_touched : Env → Items → List Cell
    items_touched env no_items = []
    items_touched env (static_item n items) = items_touched env items
    items_touched env (record_item m e items) = touched env e ++ items_touched env items

    -- The field of a filter is read at every record of the model.
    pub filters_touched : Env → ℕ → Filters → List Cell
    filters_touched env m no_filters = []
    filters_touched env m (filter_and f op e filters) =
        touched env e ++ map (λ id. record { model = m; id = id; field = f }) (ids_of d m) ++ filters_touched env m filters

  -- the cells that an initialiser touches at the record with this id
  abbrev pub init_touched : Init → ℕ → List Cell
  init_touched (plain e) id = touched (Id id ∷ []) e
  init_touched (of_set m set) id = set_touched (Id id ∷ []) set
