-- What is well typed lists no static that is not there, so it is kept where a schema grows.
use Rattle.std.proofs.Common.{◌≡◌, ℕ, Bool, true, false, ◌||◌, [], ◌∷◌, ◌++◌, refl, sym, ◌∙◌, ap, subst}
use Rattle.std.specs.Prelude.{◌==◌, IsTrue, is_some, Option, None}
use Rattle.std.proofs.lemmas.Bool.{eqb-true}
use Rattle.type_schema.specs.declared.types.TBase.TheVariants as base
use Rattle.type_schema.specs.declared.types.TTy.{TTy}
use Rattle.type_schema.specs.declared.types.TTy.TheVariants.{Plain, Set, Opt}
use Rattle.type_schema.specs.Trees.{Expr, flag, num, str, var, nothing, just, get, equal, iff, less, within, negation, both, either, if_expr, match_expr, SetExpr, everyone, nobody, listed, union, minus, find, path, mapped, flat_mapped, if_set, match_set, Items, no_items, static_item, record_item, Filters, no_filters, filter_and, Policy, to_all, to_none, by_record}
use Rattle.type_schema.specs.Schema.{StaticInfo, Schema, static_of}
use Rattle.type_schema.specs.Typing.{Scope, Content, records, principals, IsExpr, IsSet, AreItems, AreFilters, IsPolicy}
use Rattle.type_commands.specs.declared.thing.Thing.{Thing}
use Rattle.type_commands.specs.declared.thing.Thing.TheVariants as the
use Rattle.type_commands.specs.Users.{expr_uses, set_uses, items_use, filters_use, policy_uses}

or-false : (a b : Bool) → a ≡ false → b ≡ false → (a || b) ≡ false
or-false a b one other = ap (λ c. c || b) one ∙ other

or-last : (a : Bool) → a ≡ false → (a || false) ≡ false
or-last a one = ap (λ c. c || false) one

module _ (s : Schema) (k : ℕ) (gone : static_of s k ≡ None) where
  abbrev it : Thing
  it = the.Static k

  other-static : (n : ℕ) → IsTrue (is_some (static_of s n)) → (k == n) ≡ false
  other-static n has = at (k == n) refl
    where
      at : (b : Bool) → (k == n) ≡ b → b ≡ false
      at true e =
          let same : k ≡ n = eqb-true k n e in
          let none : static_of s n ≡ None = subst (λ m. static_of s m ≡ None) same gone in
          let never : false ≡ true = sym (ap (λ (o : Option StaticInfo). is_some o) none) ∙ has in
          absurd (cc never)
      at false e = refl

  mutual
    expr-unlisted : (scope : Scope) (t : TTy) (e : Expr) → IsExpr s scope t e → expr_uses it e ≡ false
    expr-unlisted scope t (flag b) typed = refl
    expr-unlisted scope t (num n) typed = refl
    expr-unlisted scope t (str bytes) typed = refl
    expr-unlisted scope t (var depth name) typed = refl
    expr-unlisted scope t nothing typed = refl
    expr-unlisted scope t (just e) typed = expr-unlisted scope (Plain typed.0) e typed.2
    expr-unlisted scope t (get e m f) typed = or-last (expr_uses it e) (expr-unlisted scope (Plain (base.Id m)) e typed.1)
    expr-unlisted scope t (equal a b op) typed =
        or-false (expr_uses it a) (expr_uses it b) (expr-unlisted scope (Plain typed.1.0) a typed.1.2) (expr-unlisted scope (Plain typed.1.0) b typed.1.3)
    expr-unlisted scope t (iff a b op) typed =
        or-false (expr_uses it a) (expr_uses it b) (expr-unlisted scope (Plain base.Bool) a typed.1) (expr-unlisted scope (Plain base.Bool) b typed.2)
    expr-unlisted scope t (less a b op) typed =
        or-false (expr_uses it a) (expr_uses it b) (expr-unlisted scope (Plain base.Int) a typed.1) (expr-unlisted scope (Plain base.Int) b typed.2)
    expr-unlisted scope t (within e m set) typed =
        or-false (expr_uses it e) (set_uses it set) (expr-unlisted scope (Plain (base.Id m)) e typed.1) (set-unlisted scope (records m) set typed.2)
    expr-unlisted scope t (negation e) typed = expr-unlisted scope (Plain base.Bool) e typed.1
    expr-unlisted scope t (both a b) typed =
        or-false (expr_uses it a) (expr_uses it b) (expr-unlisted scope (Plain base.Bool) a typed.1) (expr-unlisted scope (Plain base.Bool) b typed.2)
    expr-unlisted scope t (either a b) typed =
        or-false (expr_uses it a) (expr_uses it b) (expr-unlisted scope (Plain base.Bool) a typed.1) (expr-unlisted scope (Plain base.Bool) b typed.2)
    expr-unlisted scope t (if_expr c a b) typed =
        or-false (expr_uses it c || expr_uses it a) (expr_uses it b)
        (or-false (expr_uses it c) (expr_uses it a) (expr-unlisted scope (Plain base.Bool) c typed.0) (expr-unlisted scope t a typed.1)) (expr-unlisted scope t b typed.2)
    expr-unlisted scope t (match_expr e a name c) typed =
        or-false (expr_uses it e || expr_uses it a) (expr_uses it c)
        (or-false (expr_uses it e) (expr_uses it a) (expr-unlisted scope (Opt typed.0) e typed.1) (expr-unlisted scope t a typed.2))
        (expr-unlisted (scope ++ Plain typed.0 ∷ []) t c typed.3)

    set-unlisted : (scope : Scope) (w : Content) (set : SetExpr) → IsSet s scope w set → set_uses it set ≡ false
    set-unlisted scope w everyone typed = refl
    set-unlisted scope w nobody typed = refl
    set-unlisted scope w (listed items) typed = items-unlisted scope w items typed
    set-unlisted scope w (union a b) typed = or-false (set_uses it a) (set_uses it b) (set-unlisted scope w a typed.0) (set-unlisted scope w b typed.1)
    set-unlisted scope w (minus a b) typed = or-false (set_uses it a) (set_uses it b) (set-unlisted scope w a typed.0) (set-unlisted scope w b typed.1)
    set-unlisted scope w (find m tests) typed = filters-unlisted scope m tests typed.2
    set-unlisted scope w (path m e) typed = expr-unlisted scope (Set m) e typed.1
    set-unlisted scope w (mapped set n name m e) typed =
        or-false (set_uses it set) (expr_uses it e) (set-unlisted scope (records n) set typed.2) (expr-unlisted (scope ++ Plain (base.Id n) ∷ []) (Plain (base.Id m)) e typed.3)
    set-unlisted scope w (flat_mapped set n name body) typed =
        or-false (set_uses it set) (set_uses it body) (set-unlisted scope (records n) set typed.1) (set-unlisted (scope ++ Plain (base.Id n) ∷ []) w body typed.2)
    set-unlisted scope w (if_set c a b) typed =
        or-false (expr_uses it c || set_uses it a) (set_uses it b)
        (or-false (expr_uses it c) (set_uses it a) (expr-unlisted scope (Plain base.Bool) c typed.0) (set-unlisted scope w a typed.1)) (set-unlisted scope w b typed.2)
    set-unlisted scope w (match_set e a name c) typed =
        or-false (expr_uses it e || set_uses it a) (set_uses it c)
        (or-false (expr_uses it e) (set_uses it a) (expr-unlisted scope (Opt typed.0) e typed.1) (set-unlisted scope w a typed.2))
        (set-unlisted (scope ++ Plain typed.0 ∷ []) w c typed.3)

    items-unlisted : (scope : Scope) (w : Content) (items : Items) → AreItems s scope w items → items_use it items ≡ false
    items-unlisted scope w no_items typed = refl
    items-unlisted scope w (static_item n items) typed =
        or-false (k == n) (items_use it items) (other-static n typed.1) (items-unlisted scope w items typed.2)
    items-unlisted scope w (record_item m e items) typed =
        or-false (expr_uses it e) (items_use it items) (expr-unlisted scope (Plain (base.Id m)) e typed.1) (items-unlisted scope w items typed.2)

    filters-unlisted : (scope : Scope) (m : ℕ) (tests : Filters) → AreFilters s scope m tests → filters_use it m tests ≡ false
    filters-unlisted scope m no_filters typed = refl
    filters-unlisted scope m (filter_and f op e tests) typed =
        or-false (expr_uses it e) (filters_use it m tests) (expr-unlisted scope typed.0.1 e typed.0.4) (filters-unlisted scope m tests typed.1)

  pub policy-unlisted : (m : ℕ) (p : Policy) → IsPolicy s m p → policy_uses it p ≡ false
  policy-unlisted m to_all typed = refl
  policy-unlisted m to_none typed = refl
  policy-unlisted m (by_record name set) typed = set-unlisted (Plain (base.Id m) ∷ []) principals set typed
