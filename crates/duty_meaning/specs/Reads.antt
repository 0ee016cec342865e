-- The cells that one use of a field reads, of those that an expression or a set touches.
use Rattle.std.specs.Prelude.{◌≡◌, ℕ, List, [], ◌∷◌, ◌++◌, map, length, Some, slice_get, Contains, if◌then◌else◌}
use Rattle.std.specs.List.{flat_map}
use Rattle.type_schema.specs.Trees.{Expr, flag, num, str, var, nothing, just, get, equal, iff, less, within, negation, both, either, if_expr, match_expr, SetExpr, everyone, nobody, listed, union, minus, find, path, mapped, flat_mapped, if_set, match_set, Items, no_items, static_item, record_item, Filters, no_filters, filter_and, Init, plain, of_set}
use Rattle.type_schema.specs.Uses.{Use, uses_of, set_uses_of, init_uses_of}
use Rattle.data_meaning.specs.declared.principals.Principal.TheVariants.{Rec}
use Rattle.data_meaning.specs.Values.{Id}
use Rattle.data_meaning.specs.Database.{Database, ids_of}
use Rattle.data_meaning.specs.declared.cells.Cell.{Cell}
use Rattle.data_meaning.specs.Meaning.{Env, truth_of, id_of, taken_apart, value_of, member}
use Rattle.data_meaning.specs.Touched.{init_touched}
use Rattle.duty_meaning.specs.Reach.{in_parts, sides}

-- The uses are counted from 0, in the order of the text. What is read follows what is touched: of `if` and `match` the branch taken, the
-- body of `map` and of `flat_map` at each record that is in the source, the field of a filter at every record of the model.
module _ (d : Database) where
  abbrev mutual
    pub read_by : Env → Expr → ℕ → List Cell
    read_by env (flag b) n = []
    read_by env (num k) n = []
    read_by env (str bytes) n = []
    read_by env (var depth name) n = []
    read_by env nothing n = []
    read_by env (just e) n = read_by env e n
    read_by env (get e m f) n =
        in_parts (length (uses_of e)) (λ n. read_by env e n) (λ n. (record { model = m; id = id_of (value_of d env e); field = f }) ∷ []) n
    read_by env (equal a b op) n = in_parts (length (uses_of a)) (λ n. read_by env a n) (λ n. read_by env b n) n
    read_by env (iff a b op) n = in_parts (length (uses_of a)) (λ n. read_by env a n) (λ n. read_by env b n) n
    read_by env (less a b op) n = sides op (length (uses_of a)) (length (uses_of b)) (λ n. read_by env a n) (λ n. read_by env b n) n
    read_by env (within e m set) n = in_parts (length (uses_of e)) (λ n. read_by env e n) (λ n. set_read_by env set n) n
    read_by env (negation e) n = read_by env e n
    read_by env (both a b) n = in_parts (length (uses_of a)) (λ n. read_by env a n) (λ n. read_by env b n) n
    read_by env (either a b) n = in_parts (length (uses_of a)) (λ n. read_by env a n) (λ n. read_by env b n) n
    read_by env (if_expr c a b) n =
        in_parts (length (uses_of c)) (λ n. read_by env c n)
        (in_parts (length (uses_of a)) (λ n. if truth_of (value_of d env c) then read_by env a n else [])
        (λ n. if truth_of (value_of d env c) then [] else read_by env b n)) n
    read_by env (match_expr e a name c) n =
        in_parts (length (uses_of e)) (λ n. read_by env e n)
        (in_parts (length (uses_of a)) (λ n. taken_apart (value_of d env e) (read_by env a n) (λ v. []))
        (λ n. taken_apart (value_of d env e) [] (λ v. read_by (env ++ v ∷ []) c n))) n

    pub set_read_by : Env → SetExpr → ℕ → List Cell
    set_read_by env everyone n = []
    set_read_by env nobody n = []
    set_read_by env (listed items) n = items_read_by env items n
    set_read_by env (union a b) n = in_parts (length (set_uses_of a)) (λ n. set_read_by env a n) (λ n. set_read_by env b n) n
    set_read_by env (minus a b) n = in_parts (length (set_uses_of a)) (λ n. set_read_by env a n) (λ n. set_read_by env b n) n
    set_read_by env (find m filters) n = filters_read_by env m filters n
    set_read_by env (path m e) n = read_by env e n
    set_read_by env (mapped set k name m e) n =
        in_parts (length (set_uses_of set)) (λ n. set_read_by env set n)
        (λ n. flat_map (λ y. if member d env set (Rec k y) then read_by (env ++ Id y ∷ []) e n else []) (ids_of d k)) n
    set_read_by env (flat_mapped set k name body) n =
        in_parts (length (set_uses_of set)) (λ n. set_read_by env set n)
        (λ n. flat_map (λ y. if member d env set (Rec k y) then set_read_by (env ++ Id y ∷ []) body n else []) (ids_of d k)) n
    set_read_by env (if_set c a b) n =
        in_parts (length (uses_of c)) (λ n. read_by env c n)
        (in_parts (length (set_uses_of a)) (λ n. if truth_of (value_of d env c) then set_read_by env a n else [])
        (λ n. if truth_of (value_of d env c) then [] else set_read_by env b n)) n
    set_read_by env (match_set e a name c) n =
        in_parts (length (uses_of e)) (λ n. read_by env e n)
        (in_parts (length (set_uses_of a)) (λ n. taken_apart (value_of d env e) (set_read_by env a n) (λ v. []))
        (λ n. taken_apart (value_of d env e) [] (λ v. set_read_by (env ++ v ∷ []) c n))) n

    pub items_read_by : Env → Items → ℕ → List Cell
    items_read_by env no_items n = []
    items_read_by env (static_item k items) n = items_read_by env items n
    items_read_by env (record_item m e items) n = in_parts (length (uses_of e)) (λ n. read_by env e n) (λ n. items_read_by env items n) n

    pub filters_read_by : Env → ℕ → Filters → ℕ → List Cell
    filters_read_by env m no_filters n = []
    filters_read_by env m (filter_and f op e filters) n =
        in_parts (length (uses_of e)) (λ n. read_by env e n)
        (in_parts 1 (λ n. map (λ id. record { model = m; id = id; field = f }) (ids_of d m)) (λ n. filters_read_by env m filters n)) n

  -- of an initialiser, at the record with this id
  abbrev pub init_read_by : Init → ℕ → ℕ → List Cell
  init_read_by (plain e) id n = read_by (Id id ∷ []) e n
  init_read_by (of_set m set) id n = set_read_by (Id id ∷ []) set n

-- one of the uses of the initialiser, which is of the cell's field, reads the cell
pub record IsUsed (d : Database) (init : Init) (id : ℕ) (cell : Cell) : Type 0 where
  pub number : ℕ
  pub used : Use
  pub at : slice_get (init_uses_of init) number ≡ Some used
  pub model : used.model ≡ cell.model
  pub field : used.field ≡ cell.field
  pub reads : Contains (init_read_by d init id number) cell

-- What an initialiser touches is what its uses read.
abbrev pub UsesRead : Type 0
UsesRead =
    (d : Database) (init : Init) (id : ℕ) (cell : Cell)
    → (Contains (init_touched d init id) cell → IsUsed d init id cell)
    × ((n : ℕ) → Contains (init_read_by d init id n) cell → Contains (init_touched d init id) cell)
