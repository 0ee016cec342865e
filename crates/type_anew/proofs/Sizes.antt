-- By induction on an expression and a set that are well typed: with other numbers of the same things they become formulas of the same sizes.
use Rattle.std.proofs.Common.{◌≡◌, ℕ, suc, Bool, true, not, [], ◌∷◌, ◌++◌, refl, ap, sym, ◌∙◌, arith}
use Rattle.std.specs.Prelude.{Some, ◌==◌, if◌then◌else◌}
use Rattle.std.proofs.lemmas.Bool.{eq-eqb}
use Rattle.text_tree.specs.declared.exprs.FilterOp.{FilterOp}
use Rattle.text_tree.specs.declared.exprs.FilterOp.TheVariants.{Cmp, Has}
use Rattle.type_schema.specs.declared.types.TBase.TheVariants as base
use Rattle.type_schema.specs.declared.types.TTy.{TTy}
use Rattle.type_schema.specs.declared.types.TTy.TheVariants.{Plain, Set, Opt}
use Rattle.type_schema.specs.Trees.{Expr, flag, num, str, var, nothing, just, get, equal, iff, less, within, negation, both, either, if_expr, match_expr, SetExpr, everyone, nobody, listed, union, minus, find, path, mapped, flat_mapped, if_set, match_set, Items, no_items, static_item, record_item, Filters, no_filters, filter_and, Policy, to_all, to_none, by_record}
use Rattle.type_schema.specs.Schema.{Schema, type_of}
use Rattle.type_schema.specs.Typing.{Scope, Content, principals, records, MayHold, IsExpr, IsSet, AreItems, AreFilters, IsPolicy}
use Rattle.data_meaning.specs.Meaning.{same_truth}
use Rattle.form_formula.specs.Trees.{Term, Formula}
use Rattle.form_formula.specs.Trees as formula
use Rattle.duty_meaning.specs.Structures.{sort_of}
use Rattle.duty_meaning.specs.Cases.{Condition, constant, atom, and_if, all_if, chosen, same_condition, Cases, at_term, none, choice, of_term, at_terms, of_option, condition_of, has_term, same_term, less_term, is_truth_type}
use Rattle.duty_meaning.specs.Formulas.{Who, record_at, of_each_kind, of_model, is_static, Scene, nothing_written, field_cases, passes, next_variable, cases_of, is_in, items_in, filters_at}
use Rattle.duty_meaning.specs.Sizes.{term_size, size, row, other, policy_size_over}
use Rattle.duty_meaning.proofs.Means.{truth-of-type}
use Rattle.type_anew.proofs.Numbers.{expr_by, set_by, items_by, filters_by, policy_by}
use Rattle.type_anew.proofs.Alike.{HaveSameSize, HaveSameSizes, constant-size, atom-size, and-size, exists-size, chosen-size, all-size, any-size, AreAlike, ends-size, ends-alike, term-end, terms-size, option-end, condition-size, has-size, same-size, equal-size, less-size, some-alike, compared-size, AreScenes, scene-at, scene-more}

-- whom a set of this content is asked about
abbrev who_of : Content → Term → Who
who_of principals t = of_each_kind t
who_of (records m) t = record_at m t

-- The fields of s are in t under these numbers, and hold truth values where they do in s.
abbrev pub HasFieldsBy : (s t : Schema) → (ℕ → ℕ) → (ℕ → ℕ → ℕ) → Type 0
HasFieldsBy s t model field =
    (m f : ℕ) (ty : TTy) → type_of s m f ≡ Some ty → (u : TTy) × (type_of t (model m) (field m f) ≡ Some u) × (is_truth_type t u ≡ is_truth_type s ty)

module _ (s t : Schema) (model : ℕ → ℕ) (field : ℕ → ℕ → ℕ) (static : ℕ → ℕ) (has_fields : HasFieldsBy s t model field) where
  abbrev who_anew : Content → Term → Who
  who_anew principals u = of_each_kind u
  who_anew (records m) u = record_at (model m) u

  -- over s, and over t
  abbrev old_cases : Scene → Expr → Cases
  old_cases env x = cases_of s nothing_written env x

  abbrev new_cases : Scene → Expr → Cases
  new_cases env x = cases_of t nothing_written env (expr_by model field static x)

  abbrev old_in : Scene → SetExpr → Who → Bool → ℕ → Formula
  old_in env x q sign above = is_in s nothing_written env x q sign above

  abbrev new_in : Scene → SetExpr → Who → Bool → ℕ → Formula
  new_in env x q sign above = is_in t nothing_written env (set_by model field static x) q sign above

  -- ---- fields

  field-alike : (m f : ℕ) (ty : TTy) → type_of s m f ≡ Some ty → (u v : Term) → term_size u ≡ term_size v
      → AreAlike s t (field_cases s nothing_written m f u) (field_cases t nothing_written (model m) (field m f) v)
  field-alike m f ty is u v e = (
    model m,
    field m f,
    v,
    refl,
    truth-of-type s m f ty is ∙ sym (has_fields m f ty is).2 ∙ sym (truth-of-type t (model m) (field m f) (has_fields m f ty is).0 (has_fields m f ty is).1),
    e,
  )

  -- ---- whom a set is asked about

  model-size : (w : Content) (m : ℕ) → MayHold s w m → (u v : Term) → term_size u ≡ term_size v → (k l : Term → Condition)
      → ((u v : Term) → term_size u ≡ term_size v → HaveSameSize (k u) (l v)) → HaveSameSize (of_model m (who_of w u) k) (of_model (model m) (who_anew w v) l)
  model-size principals m may u v e k l at = λ sign above. at u v e sign above
  model-size (records n) m may u v e k l at = λ sign above.
      let old : (n == m) ≡ true = eq-eqb n m (sym may.1) in
      let anew : (model n == model m) ≡ true = eq-eqb (model n) (model m) (ap model (sym may.1)) in
      ap (λ y. size (if y then k u sign above else constant (not sign))) old
      ∙ at u v e sign above
      ∙ sym (ap (λ y. size (if y then l v sign above else constant (not sign))) anew)

  -- an item, or what `map` gives
  item-size : (w : Content) (m : ℕ) → MayHold s w m → (u v : Term) → term_size u ≡ term_size v → (sign : Bool) (above : ℕ) (x y : Term) → term_size x ≡ term_size y
      → size (of_model m (who_of w u) (λ u sign above. atom sign (formula.equal u x)) sign above) ≡ size (of_model (model m) (who_anew w v) (λ u sign above. atom sign (formula.equal u y)) sign above)
  item-size w m may u v e sign above x y f =
      model-size w m may u v e (λ u sign above. atom sign (formula.equal u x)) (λ u sign above. atom sign (formula.equal u y))
      (λ u v g. λ sign above. atom-size sign (formula.equal u x) (formula.equal v y) (omega (arith, f, g))) sign above

  passes-size : (op : FilterOp) (v v' w w' : Cases) → AreAlike s t v v' → AreAlike s t w w' → HaveSameSize (passes s nothing_written op v w) (passes t nothing_written op v' w')
  passes-size (Cmp op) v v' w w' h k = λ sign above. compared-size s t op v v' w w' h k sign above
  passes-size Has v v' w w' h k = λ sign above.
      terms-size s t above (λ u. has_term s v u sign above) (λ u. has_term t v' u sign above) (λ x y e. has-size s t v v' h x y e sign above) w w' k

  -- ---- expressions and sets

  -- the condition that a truth value is
  holds : (x : Expr) (env env' : Scene) → AreAlike s t (old_cases env x) (new_cases env' x) → HaveSameSize (condition_of s (old_cases env x)) (condition_of t (new_cases env' x))
  holds x env env' h = condition-size s t (old_cases env x) (new_cases env' x) h

  mutual
    expr-alike : (x : Expr) (scope : Scope) (env env' : Scene) → AreScenes s t env env' → (ty : TTy) → IsExpr s scope ty x → AreAlike s t (old_cases env x) (new_cases env' x)
    expr-alike (flag y) scope env env' h ty e = ((λ sign above. constant (same_truth sign y)), refl, λ sign above. refl)
    expr-alike (num n) scope env env' h ty e = (formula.num n, refl, refl)
    expr-alike (str bytes) scope env env' h ty e = (formula.str bytes, refl, refl)
    expr-alike (var depth name) scope env env' h ty e = scene-at s t env env' depth h
    expr-alike nothing scope env env' h ty e = refl
    expr-alike (just x) scope env env' h ty e = some-alike s t (old_cases env x) (new_cases env' x) (expr-alike x scope env env' h (Plain e.0) e.2)
    expr-alike (get x m f) scope env env' h ty e =
        ends-alike s t (of_term s none (field_cases s nothing_written m f)) (of_term t none (field_cases t nothing_written (model m) (field m f)))
        (λ v w k. term-end s t (AreAlike s t) none none (field_cases s nothing_written m f) (field_cases t nothing_written (model m) (field m f)) refl (field-alike m f ty e.0) v w k)
        (old_cases env x) (new_cases env' x) (expr-alike x scope env env' h (Plain (base.Id m)) e.1)
    expr-alike (equal x y op) scope env env' h ty e = (
      same_term t (new_cases env' x) (new_cases env' y),
      refl,
      equal-size s t (old_cases env x) (new_cases env' x) (old_cases env y) (new_cases env' y)
          (expr-alike x scope env env' h (Plain e.1.0) e.1.2) (expr-alike y scope env env' h (Plain e.1.0) e.1.3),
    )
    expr-alike (iff x y op) scope env env' h ty e = (
      same_condition (condition_of t (new_cases env' x)) (condition_of t (new_cases env' y)),
      refl,
      same-size s t (condition_of s (old_cases env x)) (condition_of t (new_cases env' x)) (condition_of s (old_cases env y)) (condition_of t (new_cases env' y))
          (holds x env env' (expr-alike x scope env env' h (Plain base.Bool) e.1)) (holds y env env' (expr-alike y scope env env' h (Plain base.Bool) e.2)),
    )
    expr-alike (less x y op) scope env env' h ty e = (
      less_term t (new_cases env' x) (new_cases env' y),
      refl,
      less-size s t (old_cases env x) (new_cases env' x) (old_cases env y) (new_cases env' y)
          (expr-alike x scope env env' h (Plain base.Int) e.1) (expr-alike y scope env env' h (Plain base.Int) e.2),
    )
    expr-alike (within x m set) scope env env' h ty e = (
      (λ sign above. at_terms t above (λ u. new_in env' set (record_at (model m) u) sign above) (new_cases env' x)),
      refl,
      λ sign above.
          terms-size s t above (λ u. old_in env set (record_at m u) sign above) (λ u. new_in env' set (record_at (model m) u) sign above)
          (λ u v f. set-size set scope env env' h (records m) e.2 u v f sign above)
          (old_cases env x) (new_cases env' x) (expr-alike x scope env env' h (Plain (base.Id m)) e.1),
    )
    expr-alike (negation x) scope env env' h ty e =
        ((λ sign above. condition_of t (new_cases env' x) (not sign) above), refl, λ sign above. holds x env env' (expr-alike x scope env env' h (Plain base.Bool) e.1) (not sign) above)
    expr-alike (both x y) scope env env' h ty e = (
      (λ sign above. and_if sign (condition_of t (new_cases env' x) sign above) (condition_of t (new_cases env' y) sign above)),
      refl,
      λ sign above.
          and-size sign (condition_of s (old_cases env x) sign above) (condition_of t (new_cases env' x) sign above) (condition_of s (old_cases env y) sign above) (condition_of t (new_cases env' y) sign above)
          (holds x env env' (expr-alike x scope env env' h (Plain base.Bool) e.1) sign above) (holds y env env' (expr-alike y scope env env' h (Plain base.Bool) e.2) sign above),
    )
    expr-alike (either x y) scope env env' h ty e = (
      (λ sign above. and_if (not sign) (condition_of t (new_cases env' x) sign above) (condition_of t (new_cases env' y) sign above)),
      refl,
      λ sign above.
          and-size (not sign) (condition_of s (old_cases env x) sign above) (condition_of t (new_cases env' x) sign above) (condition_of s (old_cases env y) sign above) (condition_of t (new_cases env' y) sign above)
          (holds x env env' (expr-alike x scope env env' h (Plain base.Bool) e.1) sign above) (holds y env env' (expr-alike y scope env env' h (Plain base.Bool) e.2) sign above),
    )
    expr-alike (if_expr c x y) scope env env' h ty e =
        (condition_of t (new_cases env' c), new_cases env' x, new_cases env' y, refl, holds c env env' (expr-alike c scope env env' h (Plain base.Bool) e.0), expr-alike x scope env env' h ty e.1, expr-alike y scope env env' h ty e.2)
    expr-alike (match_expr x y name z) scope env env' h ty e =
        ends-alike s t (of_option s choice (old_cases env y) (λ v. old_cases (env ++ v ∷ []) z)) (of_option t choice (new_cases env' y) (λ v. new_cases (env' ++ v ∷ []) z))
        (λ v w k. option-end s t (AreAlike s t) choice choice (λ p q f a a' b b' r r'. (q, a', b', refl, f, r, r')) (old_cases env y) (new_cases env' y) (expr-alike y scope env env' h ty e.2)
        (λ v. old_cases (env ++ v ∷ []) z) (λ v. new_cases (env' ++ v ∷ []) z)
        (λ v w k. expr-alike z (scope ++ Plain e.0 ∷ []) (env ++ v ∷ []) (env' ++ w ∷ []) (scene-more s t env env' v w h k) ty e.3) v w k)
        (old_cases env x) (new_cases env' x) (expr-alike x scope env env' h (Opt e.0) e.1)

    set-size : (x : SetExpr) (scope : Scope) (env env' : Scene) → AreScenes s t env env' → (w : Content) → IsSet s scope w x → (u v : Term) → term_size u ≡ term_size v → (sign : Bool) (above : ℕ)
        → size (old_in env x (who_of w u) sign above) ≡ size (new_in env' x (who_anew w v) sign above)
    set-size everyone scope env env' h w e u v f sign above = refl
    set-size nobody scope env env' h w e u v f sign above = refl
    set-size (listed items) scope env env' h w e u v f sign above =
        any-size sign (items_in s nothing_written env items (who_of w u) sign above) (items_in t nothing_written env' (items_by model field static items) (who_anew w v) sign above)
        (items-size items scope env env' h w e u v f sign above)
    set-size (union x y) scope env env' h w e u v f sign above =
        and-size (not sign) (old_in env x (who_of w u) sign above) (new_in env' x (who_anew w v) sign above) (old_in env y (who_of w u) sign above) (new_in env' y (who_anew w v) sign above)
        (set-size x scope env env' h w e.0 u v f sign above) (set-size y scope env env' h w e.1 u v f sign above)
    set-size (minus x y) scope env env' h w e u v f sign above =
        and-size sign (old_in env x (who_of w u) sign above) (new_in env' x (who_anew w v) sign above) (old_in env y (who_of w u) (not sign) above) (new_in env' y (who_anew w v) (not sign) above)
        (set-size x scope env env' h w e.0 u v f sign above) (set-size y scope env env' h w e.1 u v f (not sign) above)
    set-size (find m filters) scope env env' h w e u v f sign above =
        model-size w m e.0 u v f (λ x sign above. all_if sign (filters_at s nothing_written env m filters x sign above))
        (λ x sign above. all_if sign (filters_at t nothing_written env' (model m) (filters_by model field static m filters) x sign above))
        (λ x y g. λ sign above. all-size sign (filters_at s nothing_written env m filters x sign above) (filters_at t nothing_written env' (model m) (filters_by model field static m filters) y sign above)
        (filters-size filters scope env env' h m e.2 x y g sign above)) sign above
    set-size (path m x) scope env env' h w e u v f sign above =
        model-size w m e.0 u v f (has_term s (old_cases env x)) (has_term t (new_cases env' x))
        (λ y z g. λ sign above. has-size s t (old_cases env x) (new_cases env' x) (expr-alike x scope env env' h (Set m) e.1) y z g sign above) sign above
    set-size (mapped set n name m x) scope env env' h w e u v f sign above =
        let p : Term = next_variable s nothing_written n above in
        let q : Term = next_variable t nothing_written (model n) above in
        let more = scene-more s t env env' (at_term p) (at_term q) h (q, refl, refl) in
        let old_body : Term → Formula = λ y. of_model m (who_of w u) (λ z sign above. atom sign (formula.equal z y)) sign (suc above) in
        let new_body : Term → Formula = λ y. of_model (model m) (who_anew w v) (λ z sign above. atom sign (formula.equal z y)) sign (suc above) in
        let old_left : Formula = old_in env set (record_at n p) sign (suc above) in
        let new_left : Formula = new_in env' set (record_at (model n) q) sign (suc above) in
        let old_right : Formula = at_terms s (suc above) old_body (old_cases (env ++ at_term p ∷ []) x) in
        let new_right : Formula = at_terms t (suc above) new_body (new_cases (env' ++ at_term q ∷ []) x) in
        exists-size sign (sort_of s n) (sort_of t (model n)) (and_if sign old_left old_right) (and_if sign new_left new_right)
        (and-size sign old_left new_left old_right new_right (set-size set scope env env' h (records n) e.2 p q refl sign (suc above))
        (terms-size s t (suc above) old_body new_body (λ y z g. item-size w m e.0 u v f sign (suc above) y z g) (old_cases (env ++ at_term p ∷ []) x) (new_cases (env' ++ at_term q ∷ []) x)
        (expr-alike x (scope ++ Plain (base.Id n) ∷ []) (env ++ at_term p ∷ []) (env' ++ at_term q ∷ []) more (Plain (base.Id m)) e.3)))
    set-size (flat_mapped set n name c) scope env env' h w e u v f sign above =
        let p : Term = next_variable s nothing_written n above in
        let q : Term = next_variable t nothing_written (model n) above in
        let more = scene-more s t env env' (at_term p) (at_term q) h (q, refl, refl) in
        let old_left : Formula = old_in env set (record_at n p) sign (suc above) in
        let new_left : Formula = new_in env' set (record_at (model n) q) sign (suc above) in
        let old_right : Formula = old_in (env ++ at_term p ∷ []) c (who_of w u) sign (suc above) in
        let new_right : Formula = new_in (env' ++ at_term q ∷ []) c (who_anew w v) sign (suc above) in
        exists-size sign (sort_of s n) (sort_of t (model n)) (and_if sign old_left old_right) (and_if sign new_left new_right)
        (and-size sign old_left new_left old_right new_right (set-size set scope env env' h (records n) e.1 p q refl sign (suc above))
        (set-size c (scope ++ Plain (base.Id n) ∷ []) (env ++ at_term p ∷ []) (env' ++ at_term q ∷ []) more w e.2 u v f sign (suc above)))
    set-size (if_set c x y) scope env env' h w e u v f sign above =
        chosen-size above (condition_of s (old_cases env c)) (condition_of t (new_cases env' c)) (holds c env env' (expr-alike c scope env env' h (Plain base.Bool) e.0))
        (old_in env x (who_of w u) sign above) (new_in env' x (who_anew w v) sign above) (old_in env y (who_of w u) sign above) (new_in env' y (who_anew w v) sign above)
        (set-size x scope env env' h w e.1 u v f sign above) (set-size y scope env env' h w e.2 u v f sign above)
    set-size (match_set x y name z) scope env env' h w e u v f sign above =
        ends-size s t above (of_option s (chosen above) (old_in env y (who_of w u) sign above) (λ c. old_in (env ++ c ∷ []) z (who_of w u) sign above))
        (of_option t (chosen above) (new_in env' y (who_anew w v) sign above) (λ c. new_in (env' ++ c ∷ []) z (who_anew w v) sign above))
        (λ c d k. option-end s t (λ a b. size a ≡ size b) (chosen above) (chosen above) (λ p q g a a' b b' r r'. chosen-size above p q g a a' b b' r r')
        (old_in env y (who_of w u) sign above) (new_in env' y (who_anew w v) sign above) (set-size y scope env env' h w e.2 u v f sign above)
        (λ c. old_in (env ++ c ∷ []) z (who_of w u) sign above) (λ c. new_in (env' ++ c ∷ []) z (who_anew w v) sign above)
        (λ c d k. set-size z (scope ++ Plain e.0 ∷ []) (env ++ c ∷ []) (env' ++ d ∷ []) (scene-more s t env env' c d h k) w e.3 u v f sign above) c d k)
        (old_cases env x) (new_cases env' x) (expr-alike x scope env env' h (Opt e.0) e.1)

    items-size : (x : Items) (scope : Scope) (env env' : Scene) → AreScenes s t env env' → (w : Content) → AreItems s scope w x → (u v : Term) → term_size u ≡ term_size v → (sign : Bool) (above : ℕ)
        → HaveSameSizes (items_in s nothing_written env x (who_of w u) sign above) (items_in t nothing_written env' (items_by model field static x) (who_anew w v) sign above)
    items-size no_items scope env env' h w e u v f sign above = tt
    items-size (static_item n items) scope env env' h w e u v f sign above = (
      constant-size (same_truth sign (is_static n (who_of w u))) (same_truth sign (is_static (static n) (who_anew w v))),
      items-size items scope env env' h w e.2 u v f sign above,
    )
    items-size (record_item m x items) scope env env' h w e u v f sign above = (
      terms-size s t above (λ y. of_model m (who_of w u) (λ z sign above. atom sign (formula.equal z y)) sign above) (λ y. of_model (model m) (who_anew w v) (λ z sign above. atom sign (formula.equal z y)) sign above)
          (λ y z g. item-size w m e.0 u v f sign above y z g) (old_cases env x) (new_cases env' x) (expr-alike x scope env env' h (Plain (base.Id m)) e.1),
      items-size items scope env env' h w e.2 u v f sign above,
    )

    filters-size : (x : Filters) (scope : Scope) (env env' : Scene) → AreScenes s t env env' → (m : ℕ) → AreFilters s scope m x → (u v : Term) → term_size u ≡ term_size v → (sign : Bool) (above : ℕ)
        → HaveSameSizes (filters_at s nothing_written env m x u sign above) (filters_at t nothing_written env' (model m) (filters_by model field static m x) v sign above)
    filters-size no_filters scope env env' h m e u v f sign above = tt
    filters-size (filter_and g op x filters) scope env env' h m e u v f sign above = (
      passes-size op (field_cases s nothing_written m g u) (field_cases t nothing_written (model m) (field m g) v) (old_cases env x) (new_cases env' x)
          (field-alike m g e.0.0 e.0.2 u v f) (expr-alike x scope env env' h e.0.1 e.0.4) sign above,
      filters-size filters scope env env' h m e.1 u v f sign above,
    )

  -- so does a policy that is well typed
  pub policy-same : (m : ℕ) (p : Policy) → IsPolicy s m p → policy_size_over t nothing_written (policy_by model field static p) ≡ policy_size_over s nothing_written p
  policy-same m to_all is = refl
  policy-same m to_none is = refl
  policy-same m (by_record name set) is =
      sym (set-size set (Plain (base.Id m) ∷ []) (at_term row ∷ []) (at_term row ∷ []) ((row, refl, refl), tt) principals is other other refl true 2)
