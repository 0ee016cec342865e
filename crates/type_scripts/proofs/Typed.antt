-- What is well typed uses fields of the schema.
use Rattle.std.proofs.Common.{◌≡◌, ℕ, ◌<◌, true, List, [], ◌∷◌, ◌++◌, refl, ap}
use Rattle.std.specs.Prelude.{Option, Some, None, IsTrue, is_some}
use Rattle.std.specs.List.{AllByRecursion}
use Rattle.text_tree.specs.declared.exprs.CmpOp.{CmpOp}
use Rattle.text_tree.specs.declared.exprs.CmpOp.TheVariants.{Eq, Ne, Lt, Le, Gt, Ge}
use Rattle.type_schema.specs.declared.types.TBase.TheVariants as base
use Rattle.type_schema.specs.declared.types.TTy.{TTy}
use Rattle.type_schema.specs.declared.types.TTy.TheVariants.{Plain, Set, Opt}
use Rattle.type_schema.specs.Trees.{Expr, flag, num, str, var, nothing, just, get, equal, iff, less, within, negation, both, either, if_expr, match_expr, SetExpr, everyone, nobody, listed, union, minus, find, path, mapped, flat_mapped, if_set, match_set, Items, no_items, static_item, record_item, Filters, no_filters, filter_and, Policy, to_all, to_none, by_record, Init, plain, of_set}
use Rattle.type_schema.specs.Schema.{FieldInfo, ModelInfo, Schema, type_of}
use Rattle.type_schema.specs.Typing.{Scope, Content, records, principals, IsExpr, IsSet, AreItems, AreFilters, IsPolicy, IsInit, IsField, IsModel, IsTyped}
use Rattle.type_schema.specs.Uses.{Use, in_order_of_text, uses_of, set_uses_of, item_uses_of, filter_uses_of, init_uses_of}
use Rattle.type_schema.specs.Proper.{IsProper}
use Rattle.data_meaning.proofs.Kept.{field-below}
use Rattle.duty_meaning.proofs.Shown.{has-field}
use Rattle.type_proper.proofs.Lists.{all-append, all-both, all-weaken}
use Rattle.type_scripts.specs.Asked.{policy_uses_of}

-- ---- uses

abbrev pub field_use : ℕ → ℕ → Use
field_use m f = record { model = m; field = f }

module _ (s : Schema) where
  -- the schema has the field
  abbrev pub IsThere : Use → Type 0
  IsThere u = IsTrue (is_some (type_of s u.model u.field))

  there : (m f : ℕ) (t : TTy) → type_of s m f ≡ Some t → IsTrue (is_some (type_of s m f))
  there m f t h = ap is_some h

  join-sides : (op : CmpOp) (xs ys : List Use) → AllByRecursion IsThere xs → AllByRecursion IsThere ys → AllByRecursion IsThere (in_order_of_text op xs ys)
  join-sides Eq xs ys h k = all-append IsThere xs ys h k
  join-sides Ne xs ys h k = all-append IsThere xs ys h k
  join-sides Lt xs ys h k = all-append IsThere xs ys h k
  join-sides Le xs ys h k = all-append IsThere ys xs k h
  join-sides Gt xs ys h k = all-append IsThere ys xs k h
  join-sides Ge xs ys h k = all-append IsThere xs ys h k

  mutual
    pub expr-there : (e : Expr) (scope : Scope) (t : TTy) → IsExpr s scope t e → AllByRecursion IsThere (uses_of e)
    expr-there (flag z) scope t h = tt
    expr-there (num n) scope t h = tt
    expr-there (str bytes) scope t h = tt
    expr-there (var depth name) scope t h = tt
    expr-there nothing scope t h = tt
    expr-there (just e) scope t h = expr-there e scope (Plain h.0) h.2
    expr-there (get e m f) scope t h = all-append IsThere (uses_of e) ((record { model = m; field = f }) ∷ []) (expr-there e scope (Plain (base.Id m)) h.1) (there m f t h.0, tt)
    expr-there (equal c d op) scope t h = all-append IsThere (uses_of c) (uses_of d) (expr-there c scope (Plain h.1.0) h.1.2) (expr-there d scope (Plain h.1.0) h.1.3)
    expr-there (iff c d op) scope t h = all-append IsThere (uses_of c) (uses_of d) (expr-there c scope (Plain base.Bool) h.1) (expr-there d scope (Plain base.Bool) h.2)
    expr-there (less c d op) scope t h = join-sides op (uses_of c) (uses_of d) (expr-there c scope (Plain base.Int) h.1) (expr-there d scope (Plain base.Int) h.2)
    expr-there (within e m set) scope t h = all-append IsThere (uses_of e) (set_uses_of set) (expr-there e scope (Plain (base.Id m)) h.1) (set-there set scope (records m) h.2)
    expr-there (negation e) scope t h = expr-there e scope (Plain base.Bool) h.1
    expr-there (both c d) scope t h = all-append IsThere (uses_of c) (uses_of d) (expr-there c scope (Plain base.Bool) h.1) (expr-there d scope (Plain base.Bool) h.2)
    expr-there (either c d) scope t h = all-append IsThere (uses_of c) (uses_of d) (expr-there c scope (Plain base.Bool) h.1) (expr-there d scope (Plain base.Bool) h.2)
    expr-there (if_expr c d e) scope t h =
        all-append IsThere (uses_of c ++ uses_of d) (uses_of e) (all-append IsThere (uses_of c) (uses_of d) (expr-there c scope (Plain base.Bool) h.0) (expr-there d scope t h.1)) (expr-there e scope t h.2)
    expr-there (match_expr e c name d) scope t h =
        all-append IsThere (uses_of e ++ uses_of c) (uses_of d) (all-append IsThere (uses_of e) (uses_of c) (expr-there e scope (Opt h.0) h.1) (expr-there c scope t h.2))
        (expr-there d (scope ++ Plain h.0 ∷ []) t h.3)

    pub set-there : (set : SetExpr) (scope : Scope) (w : Content) → IsSet s scope w set → AllByRecursion IsThere (set_uses_of set)
    set-there everyone scope w h = tt
    set-there nobody scope w h = tt
    set-there (listed items) scope w h = items-there items scope w h
    set-there (union c d) scope w h = all-append IsThere (set_uses_of c) (set_uses_of d) (set-there c scope w h.0) (set-there d scope w h.1)
    set-there (minus c d) scope w h = all-append IsThere (set_uses_of c) (set_uses_of d) (set-there c scope w h.0) (set-there d scope w h.1)
    set-there (find m filters) scope w h = filters-there filters scope m h.2
    set-there (path m e) scope w h = expr-there e scope (Set m) h.1
    set-there (mapped set n name m e) scope w h =
        all-append IsThere (set_uses_of set) (uses_of e) (set-there set scope (records n) h.2) (expr-there e (scope ++ Plain (base.Id n) ∷ []) (Plain (base.Id m)) h.3)
    set-there (flat_mapped set n name body) scope w h =
        all-append IsThere (set_uses_of set) (set_uses_of body) (set-there set scope (records n) h.1) (set-there body (scope ++ Plain (base.Id n) ∷ []) w h.2)
    set-there (if_set c d e) scope w h =
        all-append IsThere (uses_of c ++ set_uses_of d) (set_uses_of e) (all-append IsThere (uses_of c) (set_uses_of d) (expr-there c scope (Plain base.Bool) h.0) (set-there d scope w h.1))
        (set-there e scope w h.2)
    set-there (match_set e c name d) scope w h =
        all-append IsThere (uses_of e ++ set_uses_of c) (set_uses_of d) (all-append IsThere (uses_of e) (set_uses_of c) (expr-there e scope (Opt h.0) h.1) (set-there c scope w h.2))
        (set-there d (scope ++ Plain h.0 ∷ []) w h.3)

    items-there : (items : Items) (scope : Scope) (w : Content) → AreItems s scope w items → AllByRecursion IsThere (item_uses_of items)
    items-there no_items scope w h = tt
    items-there (static_item n items) scope w h = items-there items scope w h.2
    items-there (record_item m e items) scope w h = all-append IsThere (uses_of e) (item_uses_of items) (expr-there e scope (Plain (base.Id m)) h.1) (items-there items scope w h.2)

    filters-there : (filters : Filters) (scope : Scope) (m : ℕ) → AreFilters s scope m filters → AllByRecursion IsThere (filter_uses_of m filters)
    filters-there no_filters scope m h = tt
    filters-there (filter_and f op e filters) scope m h =
        all-append IsThere (uses_of e) ((record { model = m; field = f }) ∷ filter_uses_of m filters) (expr-there e scope h.0.1 h.0.4) (there m f h.0.0 h.0.2, filters-there filters scope m h.1)

  pub policy-there : (m : ℕ) (p : Policy) → IsPolicy s m p → AllByRecursion IsThere (policy_uses_of p)
  policy-there m to_all h = tt
  policy-there m to_none h = tt
  policy-there m (by_record name set) h = set-there set (Plain (base.Id m) ∷ []) principals h

  pub init-there : (m : ℕ) (t : TTy) (init : Init) → IsInit s m t init → AllByRecursion IsThere (init_uses_of init)
  init-there m t (plain e) h = expr-there e (Plain (base.Id m) ∷ []) t h.1
  init-there m t (of_set n set) h = set-there set (Plain (base.Id m) ∷ []) (records n) h.1

  -- its number is taken
  pub there-below : IsProper s → (u : Use) → IsThere u → u.field < s.next_field
  there-below proper u h =
      elim (type_of s u.model u.field) as (λ (o : Option TTy). type_of s u.model u.field ≡ o → is_some o ≡ true → u.field < s.next_field) [
        | None ↦ λ here e. cc
        | Some t ↦ λ here e. let found = has-field s u.model u.field t here in field-below s u.model u.field found.0 proper found.1
      ] refl h

-- ---- the policies of a schema

module _ (P : Policy → Type 0) where
  abbrev pub OfField : FieldInfo → Type 0
  OfField f = P f.read × P f.write

  abbrev pub OfModel : ModelInfo → Type 0
  OfModel i = P i.create × P i.delete × AllByRecursion OfField i.fields

pub models-weaken : (P Q : Policy → Type 0) → ((p : Policy) → P p → Q p) → (models : List ModelInfo) → AllByRecursion (OfModel P) models → AllByRecursion (OfModel Q) models
models-weaken P Q more models h =
    all-weaken (OfModel P) (OfModel Q)
    (λ i own. (more i.create own.0, more i.delete own.1, all-weaken (OfField P) (OfField Q) (λ f of. (more f.read of.0, more f.write of.1)) i.fields own.2)) models h

pub models-together : (P Q R : Policy → Type 0) → ((p : Policy) → P p → Q p → R p) → (models : List ModelInfo) → AllByRecursion (OfModel P) models → AllByRecursion (OfModel Q) models
    → AllByRecursion (OfModel R) models
models-together P Q R combine models h k =
    all-both (OfModel P) (OfModel Q) (OfModel R)
    (λ i one two. (
      combine i.create one.0 two.0,
      combine i.delete one.1 two.1,
      all-both (OfField P) (OfField Q) (OfField R) (λ f of other. (combine f.read of.0 other.0, combine f.write of.1 other.1)) i.fields one.2 two.2,
    )) models h k

-- each uses fields of the schema
pub all-there : (s : Schema) → IsTyped s → AllByRecursion (OfModel (λ p. AllByRecursion (IsThere s) (policy_uses_of p))) s.models
all-there s typed =
    all-weaken (IsModel s) (OfModel (λ p. AllByRecursion (IsThere s) (policy_uses_of p)))
    (λ i is. (
      policy-there s i.number i.create is.create,
      policy-there s i.number i.delete is.delete,
      all-weaken (IsField s i.number) (OfField (λ p. AllByRecursion (IsThere s) (policy_uses_of p))) (λ f of. (policy-there s i.number f.read of.read, policy-there s i.number f.write of.write)) i.fields is.fields,
    )) s.models typed
