-- The labels of a tree: the names of its variables and the signs of its comparisons, which its meaning does not read. They are as typing
-- leaves them where each variable has the name of what binds it, no binder takes a name that is taken, each comparison has a sign of its own
-- kind, and a sign that says a negation stands just below that negation.
use Rattle.std.specs.Prelude.{◌≡◌, ℕ, false, List, [], ◌∷◌, ◌++◌, Some, position}
use Rattle.std.specs.List.{list_any}
use Rattle.std.specs.Str.{bytes_eq}
use Rattle.text_tree.specs.declared.exprs.CmpOp.{CmpOp}
use Rattle.text_tree.specs.declared.exprs.CmpOp.TheVariants.{Eq, Ne, Lt, Le, Gt, Ge}
use Rattle.type_schema.specs.Trees.{Name, Expr, flag, num, str, var, nothing, just, get, equal, iff, less, within, negation, both, either, if_expr, match_expr, SetExpr, everyone, nobody, listed, union, minus, find, path, mapped, flat_mapped, if_set, match_set, Items, no_items, static_item, record_item, Filters, no_filters, filter_and, Policy, to_all, to_none, by_record}
use Rattle.type_anew.specs.Trees.{says_not}

-- the signs of equality, and those of the order
abbrev pub IsEquality : CmpOp → Type 0
IsEquality Eq = Unit {0}
IsEquality Ne = Unit {0}
IsEquality Lt = ⊥
IsEquality Le = ⊥
IsEquality Gt = ⊥
IsEquality Ge = ⊥

abbrev pub IsOrder : CmpOp → Type 0
IsOrder Eq = ⊥
IsOrder Ne = ⊥
IsOrder Lt = Unit {0}
IsOrder Le = Unit {0}
IsOrder Gt = Unit {0}
IsOrder Ge = Unit {0}

-- the variable of this name, among these names from the outermost on, has the depth
abbrev pub IsNamed : List Name → ℕ → Name → Type 0
IsNamed names depth name = position (λ x. bytes_eq x name) names ≡ Some depth

-- none of these names is the name
abbrev pub IsFree : List Name → Name → Type 0
IsFree names name = list_any (λ x. bytes_eq x name) names ≡ false

-- no sign says a negation that is to stand above the expression
abbrev pub IsDirect : Expr → Type 0
IsDirect x = says_not x ≡ false

abbrev mutual
  pub IsLabelled : (names : List Name) → Expr → Type 0
  IsLabelled names (flag b) = Unit {0}
  IsLabelled names (num n) = Unit {0}
  IsLabelled names (str bytes) = Unit {0}
  IsLabelled names (var depth name) = IsNamed names depth name
  IsLabelled names nothing = Unit {0}
  IsLabelled names (just e) = IsDirect e × IsLabelled names e
  IsLabelled names (get e m f) = IsDirect e × IsLabelled names e
  IsLabelled names (equal a b op) = IsEquality op × (IsDirect a × IsLabelled names a) × (IsDirect b × IsLabelled names b)
  IsLabelled names (iff a b op) = IsEquality op × (IsDirect a × IsLabelled names a) × (IsDirect b × IsLabelled names b)
  IsLabelled names (less a b op) = IsOrder op × (IsDirect a × IsLabelled names a) × (IsDirect b × IsLabelled names b)
  IsLabelled names (within e m set) = (IsDirect e × IsLabelled names e) × SetIsLabelled names set
  IsLabelled names (negation e) = IsLabelled names e
  IsLabelled names (both a b) = (IsDirect a × IsLabelled names a) × (IsDirect b × IsLabelled names b)
  IsLabelled names (either a b) = (IsDirect a × IsLabelled names a) × (IsDirect b × IsLabelled names b)
  IsLabelled names (if_expr c a b) = (IsDirect c × IsLabelled names c) × (IsDirect a × IsLabelled names a) × (IsDirect b × IsLabelled names b)
  IsLabelled names (match_expr e a name c) =
      (IsDirect e × IsLabelled names e) × (IsDirect a × IsLabelled names a) × IsFree names name × (IsDirect c × IsLabelled (names ++ name ∷ []) c)

  pub SetIsLabelled : (names : List Name) → SetExpr → Type 0
  SetIsLabelled names everyone = Unit {0}
  SetIsLabelled names nobody = Unit {0}
  SetIsLabelled names (listed items) = ItemsAreLabelled names items
  SetIsLabelled names (union a b) = SetIsLabelled names a × SetIsLabelled names b
  SetIsLabelled names (minus a b) = SetIsLabelled names a × SetIsLabelled names b
  SetIsLabelled names (find m tests) = FiltersAreLabelled names tests
  SetIsLabelled names (path m e) = IsDirect e × IsLabelled names e
  SetIsLabelled names (mapped set n name m e) = SetIsLabelled names set × IsFree names name × (IsDirect e × IsLabelled (names ++ name ∷ []) e)
  SetIsLabelled names (flat_mapped set n name body) = SetIsLabelled names set × IsFree names name × SetIsLabelled (names ++ name ∷ []) body
  SetIsLabelled names (if_set c a b) = (IsDirect c × IsLabelled names c) × SetIsLabelled names a × SetIsLabelled names b
  SetIsLabelled names (match_set e a name c) =
      (IsDirect e × IsLabelled names e) × SetIsLabelled names a × IsFree names name × SetIsLabelled (names ++ name ∷ []) c

  pub ItemsAreLabelled : (names : List Name) → Items → Type 0
  ItemsAreLabelled names no_items = Unit {0}
  ItemsAreLabelled names (static_item n items) = ItemsAreLabelled names items
  ItemsAreLabelled names (record_item m e items) = (IsDirect e × IsLabelled names e) × ItemsAreLabelled names items

  pub FiltersAreLabelled : (names : List Name) → Filters → Type 0
  FiltersAreLabelled names no_filters = Unit {0}
  FiltersAreLabelled names (filter_and f op e tests) = (IsDirect e × IsLabelled names e) × FiltersAreLabelled names tests

abbrev pub PolicyIsLabelled : Policy → Type 0
PolicyIsLabelled to_all = Unit {0}
PolicyIsLabelled to_none = Unit {0}
PolicyIsLabelled (by_record name set) = SetIsLabelled (name ∷ []) set
