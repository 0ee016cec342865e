-- The models on which an expression, a set or an initialiser has a `Find`.
use Rattle.std.specs.Prelude.{ℕ, List, [], ◌∷◌, ◌++◌}
use Rattle.type_schema.specs.Trees.{Expr, flag, num, str, var, nothing, just, get, equal, iff, less, within, negation, both, either, if_expr, match_expr, SetExpr, everyone, nobody, listed, union, minus, find, path, mapped, flat_mapped, if_set, match_set, Items, no_items, static_item, record_item, Filters, no_filters, filter_and, Init, plain, of_set}

abbrev mutual
  pub finds_of : Expr → List ℕ
  finds_of (flag b) = []
  finds_of (num n) = []
  finds_of (str bytes) = []
  finds_of (var depth name) = []
  finds_of nothing = []
  finds_of (just e) = finds_of e
  finds_of (get e m f) = finds_of e
  finds_of (equal a b op) = finds_of a ++ finds_of b
  finds_of (iff a b op) = finds_of a ++ finds_of b
  finds_of (less a b op) = finds_of a ++ finds_of b
  finds_of (within e m set) = finds_of e ++ set_finds_of set
  finds_of (negation e) = finds_of e
  finds_of (both a b) = finds_of a ++ finds_of b
  finds_of (either a b) = finds_of a ++ finds_of b
  finds_of (if_expr c a b) = finds_of c ++ finds_of a ++ finds_of b
  finds_of (match_expr e a name c) = finds_of e ++ finds_of a ++ finds_of c

  pub set_finds_of : SetExpr → List ℕ
  set_finds_of everyone = []
  set_finds_of nobody = []
  set_finds_of (listed items) = item_finds_of items
  set_finds_of (union a b) = set_finds_of a ++ set_finds_of b
  set_finds_of (minus a b) = set_finds_of a ++ set_finds_of b
  set_finds_of (find m filters) = m ∷ filter_finds_of filters
  set_finds_of (path m e) = finds_of e
  set_finds_of (mapped set n name m e) = set_finds_of set ++ finds_of e
  set_finds_of (flat_mapped set n name body) = set_finds_of set ++ set_finds_of body
  set_finds_of (if_set c a b) = finds_of c ++ set_finds_of a ++ set_finds_of b
  set_finds_of (match_set e a name c) = finds_of e ++ set_finds_of a ++ set_finds_of c

  pub item_finds_of : Items → List ℕ
  item_finds_of no_items = []
  item_finds_of (static_item n items) = item_finds_of items
  item_finds_of (record_item m e items) = finds_of e ++ item_finds_of items

  pub filter_finds_of : Filters → List ℕ
  filter_finds_of no_filters = []
  filter_finds_of (filter_and f op e filters) = finds_of e ++ filter_finds_of filters

abbrev pub init_finds_of : Init → List ℕ
init_finds_of (plain e) = finds_of e
init_finds_of (of_set n set) = set_finds_of set
