-- What is well typed stays so where a schema loses a thing that it does not use, or grows.
use Rattle.std.proofs.Common.{◌≡◌, ℕ, zero, suc, Bool, true, false, ◌||◌, [], ◌∷◌, ◌++◌, refl, ◌∙◌, ap, subst, inl, inr}
use Rattle.std.specs.Prelude.{◌⊎◌, IsTrue, is_some, Some, slice_get}
use Rattle.text_tree.specs.declared.exprs.FilterOp.{FilterOp}
use Rattle.text_tree.specs.declared.exprs.FilterOp.TheVariants.{Cmp, Has}
use Rattle.type_schema.specs.declared.types.TBase.{TBase}
use Rattle.type_schema.specs.declared.types.TBase.TheVariants as base
use Rattle.type_schema.specs.declared.types.TTy.{TTy}
use Rattle.type_schema.specs.declared.types.TTy.TheVariants.{Plain, Set, Opt}
use Rattle.type_schema.specs.Trees.{Expr, flag, num, str, var, nothing, just, get, equal, iff, less, within, negation, both, either, if_expr, match_expr, SetExpr, everyone, nobody, listed, union, minus, find, path, mapped, flat_mapped, if_set, match_set, Items, no_items, static_item, record_item, Filters, no_filters, filter_and, Policy, to_all, to_none, by_record}
use Rattle.type_schema.specs.Schema.{Schema, static_of, type_of, is_principal_model}
use Rattle.type_schema.specs.Typing.{Scope, Content, principals, records, HasModel, MayHold, MayTest, IsExpr, IsSet, AreItems, AreFilters, IsPolicy, IsType, IsBase}
use Rattle.type_commands.specs.declared.thing.Thing.{Thing}
use Rattle.type_commands.specs.Users.{is_field, is_model, is_static, expr_uses, set_uses, items_use, filters_use, policy_uses, base_uses, type_uses}
use Rattle.type_proper.specs.Shown.{IsShown, SetIsShown, ItemsAreShown, FiltersAreShown, PolicyIsShown, is_source, shows}

-- ---- neither of two

pub neither : (a b : Bool) → (a || b) ≡ false → (a ≡ false) × (b ≡ false)
neither true b e = absurd (cc e)
neither false b e = (refl, e)

-- ---- what is of unused option shows its type

abbrev IsNoOption : TTy → Type 0
IsNoOption t = (b : TBase) → t ≡ Opt b → ⊥

plain-no : (b : TBase) → IsNoOption (Plain b)
plain-no b c e = cc e

set-no : (m : ℕ) → IsNoOption (Set m)
set-no m c e = cc e

shows-type : (s : Schema) (scope : Scope) (t : TTy) (e : Expr) → IsNoOption t → IsExpr s scope t e → IsTrue (shows e)
shows-type s scope t (flag b) unused typed = refl
shows-type s scope t (num n) unused typed = refl
shows-type s scope t (str bytes) unused typed = refl
shows-type s scope t (var depth name) unused typed = refl
shows-type s scope t nothing unused typed = absurd (unused typed.0 typed.1)
shows-type s scope t (just e) unused typed = refl
shows-type s scope t (get e m f) unused typed = refl
shows-type s scope t (equal a b op) unused typed = refl
shows-type s scope t (iff a b op) unused typed = refl
shows-type s scope t (less a b op) unused typed = refl
shows-type s scope t (within e m set) unused typed = refl
shows-type s scope t (negation e) unused typed = refl
shows-type s scope t (both a b) unused typed = refl
shows-type s scope t (either a b) unused typed = refl
shows-type s scope t (if_expr c a b) unused typed = shows-type s scope t a unused typed.1
shows-type s scope t (match_expr e a name c) unused typed = shows-type s scope t a unused typed.2

-- ---- a thing that goes away, or none of what is there

module _ (thing : Thing) where
  -- the type names nothing that goes away
  abbrev pub Free : TTy → Type 0
  Free t = type_uses thing t ≡ false

  abbrev pub FreeScope : Scope → Type 0
  FreeScope [] = Unit {0}
  FreeScope (t ∷ scope) = Free t × FreeScope scope

  abbrev pub FreeContent : Content → Type 0
  FreeContent principals = Unit {0}
  FreeContent (records m) = is_model thing m ≡ false

  -- what is not used by the schema is kept
  pub record Keeps (s after : Schema) : Type 0 where
    pub model : (n : ℕ) → is_model thing n ≡ false → HasModel s n → HasModel after n
    pub principal : (n : ℕ) → is_model thing n ≡ false → IsTrue (is_principal_model s n) → IsTrue (is_principal_model after n)
    pub static : (n : ℕ) → is_static thing n ≡ false → IsTrue (is_some (static_of s n)) → IsTrue (is_some (static_of after n))
    pub field : (n f : ℕ) (t : TTy) → is_model thing n ≡ false → is_field thing n f ≡ false → type_of s n f ≡ Some t → (type_of after n f ≡ Some t) × Free t

  free-at : (scope : Scope) (depth : ℕ) (t : TTy) → FreeScope scope → slice_get scope depth ≡ Some t → Free t
  free-at [] depth t free is = absurd (cc is)
  free-at (u ∷ scope) zero t free is = let same : u ≡ t = cc is in subst Free same free.0
  free-at (u ∷ scope) (suc depth) t free is = free-at scope depth t free.1 is

  free-more : (scope : Scope) (t : TTy) → FreeScope scope → Free t → FreeScope (scope ++ t ∷ [])
  free-more [] t free is = (is, tt)
  free-more (u ∷ scope) t free is = (free.0, free-more scope t free.1 is)

  -- the expression shows its type, or the type is free
  abbrev Known : Expr → TTy → Type 0
  Known e t = IsTrue (shows e) ⊎ Free t

  nothing-free : (t : TTy) → Known nothing t → Free t
  nothing-free t (inl never) = absurd (cc never)
  nothing-free t (inr free) = free

  module _ (s after : Schema) (keeps : Keeps s after) where
    held : (w : Content) (m : ℕ) → is_model thing m ≡ false → MayHold s w m → MayHold after w m
    held principals m free may = keeps.principal m free may
    held (records n) m free may = (keeps.model m free may.0, may.1)

    tested : (op : FilterOp) (t asked : TTy) → Free t → MayTest s op t asked → MayTest after op t asked × Free asked
    tested (Cmp op) (Plain b) asked free may = (may, ap (type_uses thing) may.1 ∙ free)
    tested (Cmp op) (Set m) asked free may = absurd may
    tested (Cmp op) (Opt b) asked free may = absurd may
    tested Has (Plain b) asked free may = absurd may
    tested Has (Set m) asked free may = (may, ap (type_uses thing) may ∙ free)
    tested Has (Opt b) asked free may = absurd may

    plain-known : (scope : Scope) (b : TBase) (e : Expr) → IsExpr s scope (Plain b) e → Known e (Plain b)
    plain-known scope b e typed = inl (shows-type s scope (Plain b) e (plain-no b) typed)

    set-known : (scope : Scope) (m : ℕ) (e : Expr) → IsExpr s scope (Set m) e → Known e (Set m)
    set-known scope m e typed = inl (shows-type s scope (Set m) e (set-no m) typed)

    mutual
      pub expr-kept : (scope : Scope) (t : TTy) (e : Expr) → FreeScope scope → IsShown e → expr_uses thing e ≡ false → Known e t → IsExpr s scope t e → IsExpr after scope t e × Free t
      expr-kept scope t (flag b) free shown unused known typed = (typed, ap (type_uses thing) typed)
      expr-kept scope t (num n) free shown unused known typed = (typed, ap (type_uses thing) typed.0)
      expr-kept scope t (str bytes) free shown unused known typed = (typed, ap (type_uses thing) typed.0)
      expr-kept scope t (var depth name) free shown unused known typed = (typed, free-at scope depth t free typed)
      expr-kept scope t nothing free shown unused known typed = (typed, nothing-free t known)
      expr-kept scope t (just e) free shown unused known typed =
          let b = typed.0 in
          let a = expr-kept scope (Plain b) e free shown unused (plain-known scope b e typed.2) typed.2 in
          ((b, typed.1, a.0), ap (type_uses thing) typed.1 ∙ a.1)
      expr-kept scope t (get e m f) free shown unused known typed =
          let un = neither (expr_uses thing e) (is_field thing m f) unused in
          let a = expr-kept scope (Plain (base.Id m)) e free shown un.0 (plain-known scope (base.Id m) e typed.1) typed.1 in
          let field = keeps.field m f t a.1 un.1 typed.0 in
          ((field.0, a.0), field.1)
      expr-kept scope t (equal x y op) free shown unused known typed =
          let un = neither (expr_uses thing x) (expr_uses thing y) unused in
          let c = typed.1.0 in
          let a = expr-kept scope (Plain c) x free shown.0 un.0 (plain-known scope c x typed.1.2) typed.1.2 in
          let b = expr-kept scope (Plain c) y free shown.1 un.1 (plain-known scope c y typed.1.3) typed.1.3 in
          ((typed.0, (c, typed.1.1, a.0, b.0)), ap (type_uses thing) typed.0)
      expr-kept scope t (iff x y op) free shown unused known typed =
          let un = neither (expr_uses thing x) (expr_uses thing y) unused in
          ((typed.0, (expr-kept scope (Plain base.Bool) x free shown.0 un.0 (plain-known scope base.Bool x typed.1) typed.1).0, (expr-kept scope (Plain base.Bool) y free shown.1 un.1 (plain-known scope base.Bool y typed.2) typed.2).0), ap (type_uses thing) typed.0)
      expr-kept scope t (less x y op) free shown unused known typed =
          let un = neither (expr_uses thing x) (expr_uses thing y) unused in
          ((typed.0, (expr-kept scope (Plain base.Int) x free shown.0 un.0 (plain-known scope base.Int x typed.1) typed.1).0, (expr-kept scope (Plain base.Int) y free shown.1 un.1 (plain-known scope base.Int y typed.2) typed.2).0), ap (type_uses thing) typed.0)
      expr-kept scope t (within e m set) free shown unused known typed =
          let un = neither (expr_uses thing e) (set_uses thing set) unused in
          let a = expr-kept scope (Plain (base.Id m)) e free shown.0 un.0 (plain-known scope (base.Id m) e typed.1) typed.1 in
          let all = set-kept scope (records m) set free a.1 shown.1 un.1 typed.2 in
          ((typed.0, a.0, all), ap (type_uses thing) typed.0)
      expr-kept scope t (negation e) free shown unused known typed =
          ((typed.0, (expr-kept scope (Plain base.Bool) e free shown unused (plain-known scope base.Bool e typed.1) typed.1).0), ap (type_uses thing) typed.0)
      expr-kept scope t (both x y) free shown unused known typed =
          let un = neither (expr_uses thing x) (expr_uses thing y) unused in
          ((typed.0, (expr-kept scope (Plain base.Bool) x free shown.0 un.0 (plain-known scope base.Bool x typed.1) typed.1).0, (expr-kept scope (Plain base.Bool) y free shown.1 un.1 (plain-known scope base.Bool y typed.2) typed.2).0), ap (type_uses thing) typed.0)
      expr-kept scope t (either x y) free shown unused known typed =
          let un = neither (expr_uses thing x) (expr_uses thing y) unused in
          ((typed.0, (expr-kept scope (Plain base.Bool) x free shown.0 un.0 (plain-known scope base.Bool x typed.1) typed.1).0, (expr-kept scope (Plain base.Bool) y free shown.1 un.1 (plain-known scope base.Bool y typed.2) typed.2).0), ap (type_uses thing) typed.0)
      expr-kept scope t (if_expr c x y) free shown unused known typed =
          let outer = neither (expr_uses thing c || expr_uses thing x) (expr_uses thing y) unused in
          let un = neither (expr_uses thing c) (expr_uses thing x) outer.0 in
          let test = expr-kept scope (Plain base.Bool) c free shown.0 un.0 (plain-known scope base.Bool c typed.0) typed.0 in
          let a = expr-kept scope t x free shown.1 un.1 known typed.1 in
          let b = expr-kept scope t y free shown.2 outer.1 (inr a.1) typed.2 in
          ((test.0, a.0, b.0), a.1)
      expr-kept scope t (match_expr e x name y) free shown unused known typed =
          let outer = neither (expr_uses thing e || expr_uses thing x) (expr_uses thing y) unused in
          let un = neither (expr_uses thing e) (expr_uses thing x) outer.0 in
          let b = typed.0 in
          let of = expr-kept scope (Opt b) e free shown.1 un.0 (inl shown.0) typed.1 in
          let none = expr-kept scope t x free shown.2 un.1 known typed.2 in
          let some = expr-kept (scope ++ Plain b ∷ []) t y (free-more scope (Plain b) free of.1) shown.3 outer.1 (inr none.1) typed.3 in
          ((b, of.0, none.0, some.0), none.1)

      -- of which model the records of a source are
      source-free : (scope : Scope) (n : ℕ) (set : SetExpr) → FreeScope scope → IsTrue (is_source set) → SetIsShown set → set_uses thing set ≡ false → IsSet s scope (records n) set → is_model thing n ≡ false
      source-free scope n everyone free is shown unused typed = absurd (cc is)
      source-free scope n nobody free is shown unused typed = absurd (cc is)
      source-free scope n (listed items) free is shown unused typed = absurd (cc is)
      source-free scope n (union a b) free is shown unused typed = absurd (cc is)
      source-free scope n (minus a b) free is shown unused typed = absurd (cc is)
      source-free scope n (find m tests) free is shown unused typed =
          let un = neither (is_model thing m) (filters_use thing m tests) unused in
          subst (λ k. is_model thing k ≡ false) typed.0.1 un.0
      source-free scope n (path m e) free is shown unused typed =
          let a = expr-kept scope (Set m) e free shown unused (set-known scope m e typed.1) typed.1 in
          subst (λ k. is_model thing k ≡ false) typed.0.1 a.1
      source-free scope n (mapped set k name m e) free is shown unused typed =
          let un = neither (set_uses thing set) (expr_uses thing e) unused in
          let over = source-free scope k set free shown.0 shown.1 un.0 typed.2 in
          let each = expr-kept (scope ++ Plain (base.Id k) ∷ []) (Plain (base.Id m)) e (free-more scope (Plain (base.Id k)) free over) shown.2 un.1 (plain-known (scope ++ Plain (base.Id k) ∷ []) (base.Id m) e typed.3) typed.3 in
          subst (λ k. is_model thing k ≡ false) typed.0.1 each.1
      source-free scope n (flat_mapped set k name body) free is shown unused typed = absurd (cc is)
      source-free scope n (if_set c a b) free is shown unused typed = absurd (cc is)
      source-free scope n (match_set e a name c) free is shown unused typed = absurd (cc is)

      pub set-kept : (scope : Scope) (w : Content) (set : SetExpr) → FreeScope scope → FreeContent w → SetIsShown set → set_uses thing set ≡ false → IsSet s scope w set → IsSet after scope w set
      set-kept scope w everyone free only shown unused typed = typed
      set-kept scope w nobody free only shown unused typed = tt
      set-kept scope w (listed items) free only shown unused typed = items-kept scope w items free only shown unused typed
      set-kept scope w (union a b) free only shown unused typed =
          let un = neither (set_uses thing a) (set_uses thing b) unused in
          (set-kept scope w a free only shown.0 un.0 typed.0, set-kept scope w b free only shown.1 un.1 typed.1)
      set-kept scope w (minus a b) free only shown unused typed =
          let un = neither (set_uses thing a) (set_uses thing b) unused in
          (set-kept scope w a free only shown.0 un.0 typed.0, set-kept scope w b free only shown.1 un.1 typed.1)
      set-kept scope w (find m tests) free only shown unused typed =
          let un = neither (is_model thing m) (filters_use thing m tests) unused in
          (held w m un.0 typed.0, keeps.model m un.0 typed.1, filters-kept scope m tests free un.0 shown un.1 typed.2)
      set-kept scope w (path m e) free only shown unused typed =
          let a = expr-kept scope (Set m) e free shown unused (set-known scope m e typed.1) typed.1 in
          (held w m a.1 typed.0, a.0)
      set-kept scope w (mapped set n name m e) free only shown unused typed =
          let un = neither (set_uses thing set) (expr_uses thing e) unused in
          let over = source-free scope n set free shown.0 shown.1 un.0 typed.2 in
          let from = set-kept scope (records n) set free over shown.1 un.0 typed.2 in
          let each = expr-kept (scope ++ Plain (base.Id n) ∷ []) (Plain (base.Id m)) e (free-more scope (Plain (base.Id n)) free over) shown.2 un.1 (plain-known (scope ++ Plain (base.Id n) ∷ []) (base.Id m) e typed.3) typed.3 in
          (held w m each.1 typed.0, keeps.model n over typed.1, from, each.0)
      set-kept scope w (flat_mapped set n name body) free only shown unused typed =
          let un = neither (set_uses thing set) (set_uses thing body) unused in
          let over = source-free scope n set free shown.0 shown.1 un.0 typed.1 in
          let from = set-kept scope (records n) set free over shown.1 un.0 typed.1 in
          let each = set-kept (scope ++ Plain (base.Id n) ∷ []) w body (free-more scope (Plain (base.Id n)) free over) only shown.2 un.1 typed.2 in
          (keeps.model n over typed.0, from, each)
      set-kept scope w (if_set c a b) free only shown unused typed =
          let outer = neither (expr_uses thing c || set_uses thing a) (set_uses thing b) unused in
          let un = neither (expr_uses thing c) (set_uses thing a) outer.0 in
          let test = expr-kept scope (Plain base.Bool) c free shown.0 un.0 (plain-known scope base.Bool c typed.0) typed.0 in
          (test.0, set-kept scope w a free only shown.1 un.1 typed.1, set-kept scope w b free only shown.2 outer.1 typed.2)
      set-kept scope w (match_set e a name c) free only shown unused typed =
          let outer = neither (expr_uses thing e || set_uses thing a) (set_uses thing c) unused in
          let un = neither (expr_uses thing e) (set_uses thing a) outer.0 in
          let b = typed.0 in
          let of = expr-kept scope (Opt b) e free shown.1 un.0 (inl shown.0) typed.1 in
          (b, of.0, set-kept scope w a free only shown.2 un.1 typed.2, set-kept (scope ++ Plain b ∷ []) w c (free-more scope (Plain b) free of.1) only shown.3 outer.1 typed.3)

      items-kept : (scope : Scope) (w : Content) (items : Items) → FreeScope scope → FreeContent w → ItemsAreShown items → items_use thing items ≡ false → AreItems s scope w items → AreItems after scope w items
      items-kept scope w no_items free only shown unused typed = tt
      items-kept scope w (static_item n items) free only shown unused typed =
          let un = neither (is_static thing n) (items_use thing items) unused in
          (typed.0, keeps.static n un.0 typed.1, items-kept scope w items free only shown un.1 typed.2)
      items-kept scope w (record_item m e items) free only shown unused typed =
          let un = neither (expr_uses thing e) (items_use thing items) unused in
          let a = expr-kept scope (Plain (base.Id m)) e free shown.0 un.0 (plain-known scope (base.Id m) e typed.1) typed.1 in
          (held w m a.1 typed.0, a.0, items-kept scope w items free only shown.1 un.1 typed.2)

      filters-kept : (scope : Scope) (m : ℕ) (tests : Filters) → FreeScope scope → is_model thing m ≡ false → FiltersAreShown tests → filters_use thing m tests ≡ false → AreFilters s scope m tests → AreFilters after scope m tests
      filters-kept scope m no_filters free only shown unused typed = tt
      filters-kept scope m (filter_and f op e tests) free only shown unused typed =
          let outer = neither (is_field thing m f || expr_uses thing e) (filters_use thing m tests) unused in
          let un = neither (is_field thing m f) (expr_uses thing e) outer.0 in
          let t = typed.0.0 in
          let asked = typed.0.1 in
          let field = keeps.field m f t only un.0 typed.0.2 in
          let may = tested op t asked field.1 typed.0.3 in
          let value = expr-kept scope asked e free shown.0 un.1 (inr may.1) typed.0.4 in
          ((t, asked, field.0, may.0, value.0), filters-kept scope m tests free only shown.1 outer.1 typed.1)

    -- a policy on records of a model that stays
    pub policy-kept : (m : ℕ) (p : Policy) → is_model thing m ≡ false → PolicyIsShown p → policy_uses thing p ≡ false → IsPolicy s m p → IsPolicy after m p
    policy-kept m to_all free shown unused typed = tt
    policy-kept m to_none free shown unused typed = tt
    policy-kept m (by_record name set) free shown unused typed = set-kept (Plain (base.Id m) ∷ []) principals set (free, tt) tt shown unused typed

    pub base-kept : (b : TBase) → base_uses thing b ≡ false → IsBase s b → IsBase after b
    base-kept base.Bool free is = tt
    base-kept base.Int free is = tt
    base-kept base.Text free is = tt
    base-kept (base.Id m) free is = keeps.model m free is

    pub type-kept : (t : TTy) → Free t → IsType s t → IsType after t
    type-kept (Plain b) free is = base-kept b free is
    type-kept (Set m) free is = keeps.model m free is
    type-kept (Opt b) free is = base-kept b free is
