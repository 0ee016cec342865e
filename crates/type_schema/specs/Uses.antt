-- The uses of fields in an initialiser: each access of a field, and the field of each filter.
use Rattle.std.specs.Prelude.{ℕ, List, [], ◌∷◌, ◌++◌}
use Rattle.text_tree.specs.declared.exprs.CmpOp.{CmpOp}
use Rattle.text_tree.specs.declared.exprs.CmpOp.TheVariants.{Eq, Ne, Lt, Le, Gt, Ge}
use Rattle.type_schema.specs.Trees.{Expr, flag, num, str, var, nothing, just, get, equal, iff, less, within, negation, both, either, if_expr, match_expr, SetExpr, everyone, nobody, listed, union, minus, find, path, mapped, flat_mapped, if_set, match_set, Items, no_items, static_item, record_item, Filters, no_filters, filter_and, Init, plain, of_set}

-- a field of a model
pub record Use : Type 0 where
  pub model : ℕ
  pub field : ℕ

-- What stands on the two sides of `less`, in the order of the text: with `>` and `<=` the sides are exchanged.
abbrev pub in_order_of_text : CmpOp → List Use → List Use → List Use
in_order_of_text Eq left right = left ++ right
in_order_of_text Ne left right = left ++ right
in_order_of_text Lt left right = left ++ right
in_order_of_text Le left right = right ++ left
in_order_of_text Gt left right = right ++ left
in_order_of_text Ge left right = left ++ right

-- Inner uses stand before outer ones, left before right, and the field of a filter behind the uses in its value.
abbrev mutual
  pub uses_of : Expr → List Use
  uses_of (flag b) = []
  uses_of (num n) = []
  uses_of (str bytes) = []
  uses_of (var depth name) = []
  uses_of nothing = []
  uses_of (just e) = uses_of e
  uses_of (get e m f) = uses_of e ++ (record { model = m; field = f }) ∷ []
  uses_of (equal a b op) = uses_of a ++ uses_of b
  uses_of (iff a b op) = uses_of a ++ uses_of b
  uses_of (less a b op) = in_order_of_text op (uses_of a) (uses_of b)
  uses_of (within e m set) = uses_of e ++ set_uses_of set
  uses_of (negation e) = uses_of e
  uses_of (both a b) = uses_of a ++ uses_of b
  uses_of (either a b) = uses_of a ++ uses_of b
  uses_of (if_expr c a b) = uses_of c ++ uses_of a ++ uses_of b
  uses_of (match_expr e a name c) = uses_of e ++ uses_of a ++ uses_of c

  pub set_uses_of : SetExpr → List Use
  set_uses_of everyone = []
  set_uses_of nobody = []
  set_uses_of (listed items) = item_uses_of items
  set_uses_of (union a b) = set_uses_of a ++ set_uses_of b
  set_uses_of (minus a b) = set_uses_of a ++ set_uses_of b
  set_uses_of (find m filters) = filter_uses_of m filters
  set_uses_of (path m e) = uses_of e
  set_uses_of (mapped set n name m e) = set_uses_of set ++ uses_of e
  set_uses_of (flat_mapped set n name body) = set_uses_of set ++ set_uses_of body
  set_uses_of (if_set c a b) = uses_of c ++ set_uses_of a ++ set_uses_of b
  set_uses_of (match_set e a name c) = uses_of e ++ set_uses_of a ++ set_uses_of c

  pub item_uses_of : Items → List Use
  item_uses_of no_items = []
  item_uses_of (static_item n items) = item_uses_of items
  item_uses_of (record_item m e items) = uses_of e ++ item_uses_of items

  pub filter_uses_of : ℕ → Filters → List Use
  filter_uses_of m no_filters = []
  filter_uses_of m (filter_and f op e filters) = uses_of e ++ (record { model = m; field = f }) ∷ filter_uses_of m filters

abbrev pub init_uses_of : Init → List Use
init_uses_of (plain e) = uses_of e
init_uses_of (of_set n set) = set_uses_of set
