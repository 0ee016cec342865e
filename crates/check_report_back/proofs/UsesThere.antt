-- Each field that a typed initialiser uses is there.
use Rattle.std.proofs.Common.{◌≡◌, ℕ, zero, suc, List, [], ◌∷◌, ◌++◌, subst}
use Rattle.std.specs.Prelude.{Some, slice_get}
use Rattle.std.specs.List.{AllByRecursion}
use Rattle.type_schema.specs.declared.types.TTy.{TTy}
use Rattle.type_schema.specs.declared.types.TTy.TheVariants.{Plain, Set, Opt}
use Rattle.type_schema.specs.declared.types.TBase.TheVariants as base
use Rattle.type_schema.specs.Trees.{Expr, flag, num, str, var, nothing, just, get, equal, iff, less, within, negation, both, either, if_expr, match_expr, SetExpr, everyone, nobody, listed, union, minus, find, path, mapped, flat_mapped, if_set, match_set, Items, no_items, static_item, record_item, Filters, no_filters, filter_and, Init, plain, of_set}
use Rattle.type_schema.specs.Schema.{Schema, type_of}
use Rattle.type_schema.specs.Typing.{Scope, Content, records, IsInit, IsExpr, IsSet, AreItems, AreFilters}
use Rattle.type_schema.specs.Uses.{Use, in_order_of_text, uses_of, set_uses_of, item_uses_of, filter_uses_of, init_uses_of}
use Rattle.text_tree.specs.declared.exprs.CmpOp.{CmpOp}
use Rattle.text_tree.specs.declared.exprs.CmpOp.TheVariants.{Eq, Ne, Lt, Le, Gt, Ge}
use Rattle.check_report_back.proofs.Names.{in-both}

all-at : {A : Type 0} (P : A → Type 0) (xs : List A) (k : ℕ) (x : A) → AllByRecursion P xs → slice_get xs k ≡ Some x → P x
all-at P [] k x all e = cc
all-at P (y ∷ xs) zero x all e = let same : y ≡ x = cc in subst P same all.0
all-at P (y ∷ xs) (suc k) x all e = all-at P xs k x all.1 e

module _ (s : Schema) where
  -- the field has a type
  abbrev IsTyped : Use → Type 0
  IsTyped u = (t : TTy) × (type_of s u.model u.field ≡ Some t)

  abbrev AreTyped : List Use → Type 0
  AreTyped = AllByRecursion IsTyped

  two : (a b : List Use) → AreTyped a → AreTyped b → AreTyped (a ++ b)
  two a b one other = in-both IsTyped a b one other

  either-order : (op : CmpOp) (a b : List Use) → AreTyped a → AreTyped b → AreTyped (in_order_of_text op a b)
  either-order Eq a b one other = two a b one other
  either-order Ne a b one other = two a b one other
  either-order Lt a b one other = two a b one other
  either-order Le a b one other = two b a other one
  either-order Gt a b one other = two b a other one
  either-order Ge a b one other = two a b one other

  mutual
    expr-uses : (scope : Scope) (t : TTy) (e : Expr) → IsExpr s scope t e → AreTyped (uses_of e)
    expr-uses scope t (flag b) typed = tt
    expr-uses scope t (num n) typed = tt
    expr-uses scope t (str bytes) typed = tt
    expr-uses scope t (var depth name) typed = tt
    expr-uses scope t nothing typed = tt
    expr-uses scope t (just e) typed = expr-uses scope (Plain typed.0) e typed.2
    expr-uses scope t (get e m f) typed = two (uses_of e) _ (expr-uses scope (Plain (base.Id m)) e typed.1) ((t, typed.0), tt)
    expr-uses scope t (equal a b op) typed =
        two (uses_of a) (uses_of b) (expr-uses scope (Plain typed.1.0) a typed.1.2) (expr-uses scope (Plain typed.1.0) b typed.1.3)
    expr-uses scope t (iff a b op) typed = two (uses_of a) (uses_of b) (expr-uses scope (Plain base.Bool) a typed.1) (expr-uses scope (Plain base.Bool) b typed.2)
    expr-uses scope t (less a b op) typed = either-order op (uses_of a) (uses_of b) (expr-uses scope (Plain base.Int) a typed.1) (expr-uses scope (Plain base.Int) b typed.2)
    expr-uses scope t (within e m set) typed = two (uses_of e) (set_uses_of set) (expr-uses scope (Plain (base.Id m)) e typed.1) (set-uses scope (records m) set typed.2)
    expr-uses scope t (negation e) typed = expr-uses scope (Plain base.Bool) e typed.1
    expr-uses scope t (both a b) typed = two (uses_of a) (uses_of b) (expr-uses scope (Plain base.Bool) a typed.1) (expr-uses scope (Plain base.Bool) b typed.2)
    expr-uses scope t (either a b) typed = two (uses_of a) (uses_of b) (expr-uses scope (Plain base.Bool) a typed.1) (expr-uses scope (Plain base.Bool) b typed.2)
    expr-uses scope t (if_expr c a b) typed =
        two (uses_of c ++ uses_of a) (uses_of b) (two (uses_of c) (uses_of a) (expr-uses scope (Plain base.Bool) c typed.0) (expr-uses scope t a typed.1)) (expr-uses scope t b typed.2)
    expr-uses scope t (match_expr e a name c) typed =
        two (uses_of e ++ uses_of a) (uses_of c) (two (uses_of e) (uses_of a) (expr-uses scope (Opt typed.0) e typed.1) (expr-uses scope t a typed.2))
        (expr-uses (scope ++ Plain typed.0 ∷ []) t c typed.3)

    set-uses : (scope : Scope) (w : Content) (set : SetExpr) → IsSet s scope w set → AreTyped (set_uses_of set)
    set-uses scope w everyone typed = tt
    set-uses scope w nobody typed = tt
    set-uses scope w (listed items) typed = items-uses scope w items typed
    set-uses scope w (union a b) typed = two (set_uses_of a) (set_uses_of b) (set-uses scope w a typed.0) (set-uses scope w b typed.1)
    set-uses scope w (minus a b) typed = two (set_uses_of a) (set_uses_of b) (set-uses scope w a typed.0) (set-uses scope w b typed.1)
    set-uses scope w (find m tests) typed = filters-uses scope m tests typed.2
    set-uses scope w (path m e) typed = expr-uses scope (Set m) e typed.1
    set-uses scope w (mapped set n name m e) typed =
        two (set_uses_of set) (uses_of e) (set-uses scope (records n) set typed.2) (expr-uses (scope ++ Plain (base.Id n) ∷ []) (Plain (base.Id m)) e typed.3)
    set-uses scope w (flat_mapped set n name body) typed =
        two (set_uses_of set) (set_uses_of body) (set-uses scope (records n) set typed.1) (set-uses (scope ++ Plain (base.Id n) ∷ []) w body typed.2)
    set-uses scope w (if_set c a b) typed =
        two (uses_of c ++ set_uses_of a) (set_uses_of b) (two (uses_of c) (set_uses_of a) (expr-uses scope (Plain base.Bool) c typed.0) (set-uses scope w a typed.1)) (set-uses scope w b typed.2)
    set-uses scope w (match_set e a name c) typed =
        two (uses_of e ++ set_uses_of a) (set_uses_of c) (two (uses_of e) (set_uses_of a) (expr-uses scope (Opt typed.0) e typed.1) (set-uses scope w a typed.2))
        (set-uses (scope ++ Plain typed.0 ∷ []) w c typed.3)

    items-uses : (scope : Scope) (w : Content) (items : Items) → AreItems s scope w items → AreTyped (item_uses_of items)
    items-uses scope w no_items typed = tt
    items-uses scope w (static_item n items) typed = items-uses scope w items typed.2
    items-uses scope w (record_item m e items) typed = two (uses_of e) (item_uses_of items) (expr-uses scope (Plain (base.Id m)) e typed.1) (items-uses scope w items typed.2)

    filters-uses : (scope : Scope) (m : ℕ) (tests : Filters) → AreFilters s scope m tests → AreTyped (filter_uses_of m tests)
    filters-uses scope m no_filters typed = tt
    filters-uses scope m (filter_and f op e tests) typed =
        two (uses_of e) _ (expr-uses scope typed.0.1 e typed.0.4) ((typed.0.0, typed.0.2), filters-uses scope m tests typed.1)

  init-uses : (m : ℕ) (t : TTy) (init : Init) → IsInit s m t init → AreTyped (init_uses_of init)
  init-uses m t (plain e) typed = expr-uses (Plain (base.Id m) ∷ []) t e typed.1
  init-uses m t (of_set n set) typed = set-uses (Plain (base.Id m) ∷ []) (records n) set typed.1

  pub use-typed : (m : ℕ) (t : TTy) (init : Init) → IsInit s m t init → (n : ℕ) (at : Use) → slice_get (init_uses_of init) n ≡ Some at
      → (u : TTy) × (type_of s at.model at.field ≡ Some u)
  use-typed m t init is n at e = all-at IsTyped (init_uses_of init) n at (init-uses m t init is) e
