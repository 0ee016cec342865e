-- The formulas of expressions and sets that are well typed are over the signature.
use Rattle.std.proofs.Common.{◌≡◌, ℕ, suc, ◌<◌, Bool, true, false, not, List, [], ◌∷◌, ◌++◌, length, refl, ap, sym, ◌∙◌, subst, arith, length-append}
use Rattle.std.specs.Prelude.{Some, ◌==◌, slice_get, if◌then◌else◌}
use Rattle.std.specs.List.{AllByRecursion}
use Rattle.std.proofs.lemmas.Bool.{eqb-true}
use Rattle.text_tree.specs.declared.exprs.FilterOp.{FilterOp}
use Rattle.text_tree.specs.declared.exprs.FilterOp.TheVariants.{Cmp, Has}
use Rattle.type_schema.specs.declared.types.TBase.{TBase}
use Rattle.type_schema.specs.declared.types.TBase.TheVariants as base
use Rattle.type_schema.specs.declared.types.TTy.{TTy}
use Rattle.type_schema.specs.declared.types.TTy.TheVariants.{Plain, Set, Opt}
use Rattle.type_schema.specs.Trees.{Expr, flag, num, str, var, nothing, just, get, equal, iff, less, within, negation, both, either, if_expr, match_expr, SetExpr, everyone, nobody, listed, union, minus, find, path, mapped, flat_mapped, if_set, match_set, Items, no_items, static_item, record_item, Filters, no_filters, filter_and, Policy, to_all, to_none, by_record, Init, plain, of_set}
use Rattle.type_schema.specs.Schema.{Schema, type_of}
use Rattle.type_schema.specs.Typing.{HasModel, Scope, Content, records, principals, IsCompared, MayTest, IsExpr, IsSet, AreItems, AreFilters, IsPolicy, IsInit}
use Rattle.data_meaning.specs.Meaning.{same_truth}
use Rattle.form_formula.specs.declared.structure.Range.TheVariants as range
use Rattle.form_formula.specs.declared.structure.Signature.{Signature}
use Rattle.form_formula.specs.Trees.{Term, Formula, bound}
use Rattle.form_formula.specs.Trees as tree
use Rattle.form_formula.specs.Over.{IsOver}
use Rattle.duty_meaning.specs.Structures.{sort_of}
use Rattle.duty_meaning.specs.Cases.{Condition, constant, atom, and_if, all_if, chosen, Cases, at_term, held, truth, among, none, some, choice, continued, of_term, at_terms, of_option, condition_of, has_term, is_truth_type, is_truth}
use Rattle.duty_meaning.specs.Formulas.{Who, static, record_at, of_each_kind, of_model, Scene, Written, field_cases, cases_of, is_in, items_in, filters_at, is_allowed, init_cases}
use Rattle.duty_meaning.specs.Formulas as form
use Rattle.duty_meaning.specs.Reach.{end_is_none, end_is_some}
use Rattle.duty_meaning.proofs.Means.{IsPrefix, prefix-itself, prefix-more, prefix-along, shows-truth, truth-type, option-type}
use Rattle.duty_meaning.proofs.Meanings.{get-next}
use Rattle.duty_meaning.proofs.Ends.{IsEnd}
use Rattle.duty_meaning.proofs.OverCases.{constant-over, atom-over, and-over, exists-over, all-over, any-over, HasTerm, OverCases, over-typed, ends-over, ends-cases, term-end, terms-over, option-end, chosen-over, condition-over, same-over, has-over, equal-over, less-over, comparison-over, OverScene, scene-at, scene-more, scene-and, OverWho, overwho-more}

-- what the schema s says of fields and models is over the signature, whose sorts and functions are numbered by the schema b
pub record Speaks (b s : Schema) (written : Written) (g : Signature) : Type 0 where
  pub fields : (m f : ℕ) (t : TTy) → type_of s m f ≡ Some t → (xs : List ℕ) (u : Term) → HasTerm b g xs (base.Id m) u → OverCases b g xs t (field_cases b written m f u)
  pub sorts : (m : ℕ) → HasModel s m → sort_of b m < g.sorts

module _ (b s : Schema) (written : Written) (g : Signature) (speaks : Speaks b s written g) where
  pub next-over : (n : ℕ) (xs : List ℕ) → HasTerm b g (xs ++ sort_of b n ∷ []) (base.Id n) (bound (sort_of b n) (length xs))
  next-over n xs = λ zs q. (ap (λ l. slice_get l (length xs)) q.1 ∙ get-next xs q.0 (sort_of b n), refl)

  pub longer : (xs : List ℕ) (k : ℕ) → length (xs ++ k ∷ []) ≡ suc (length xs)
  longer xs k = omega (arith, length-append xs (k ∷ []))

  model-over : (m : ℕ) (xs : List ℕ) (w : Who) → OverWho b g xs w → (k : Term → Condition) (sign : Bool) (above : ℕ)
      → ((u : Term) → HasTerm b g xs (base.Id m) u → IsOver g xs (k u sign above)) → IsOver g xs (of_model m w k sign above)
  model-over m xs (static n) is k sign above at = constant-over g xs (not sign)
  model-over m xs (of_each_kind u) is k sign above at = absurd is
  model-over m xs (record_at n u) is k sign above at =
      elim (n == m) as (λ (y : Bool). (n == m) ≡ y → IsOver g xs (if y then k u sign above else constant (not sign))) [
        | true ↦ λ e. at u (subst (λ (i : ℕ). HasTerm b g xs (base.Id i) u) (eqb-true n m e) is)
        | false ↦ λ e. constant-over g xs (not sign)
      ] refl

  item-over : (m : ℕ) (xs : List ℕ) (w : Who) → OverWho b g xs w → (t : Term) → HasTerm b g xs (base.Id m) t → (sign : Bool) (above : ℕ)
      → IsOver g xs (of_model m w (λ u sign above. atom sign (tree.equal u t)) sign above)
  item-over m xs w is t it sign above =
      model-over m xs w is (λ u sign above. atom sign (tree.equal u t)) sign above
      (λ u at. atom-over g xs sign (tree.equal u t) (range.Rec (sort_of b m), tt, at xs (prefix-itself xs), it xs (prefix-itself xs)))

  pass-over : (xs : List ℕ) (op : FilterOp) (held asked : TTy) → MayTest s op held asked → (fc : Cases) → OverCases b g xs held fc → (c : Cases) → OverCases b g xs asked c
      → (sign : Bool) → IsOver g xs (form.passes b written op fc c sign (length xs))
  pass-over xs (Cmp op) (Plain p) asked may fc h c k sign = comparison-over b g op p may.0 xs fc c h (subst (λ (i : TTy). OverCases b g xs i c) may.1 k) sign
  pass-over xs (Cmp op) (Set n) asked may fc h c k sign = absurd may
  pass-over xs (Cmp op) (Opt p) asked may fc h c k sign = absurd may
  pass-over xs Has (Plain p) asked may fc h c k sign = absurd may
  pass-over xs Has (Opt p) asked may fc h c k sign = absurd may
  pass-over xs Has (Set n) asked may fc h c k sign =
      terms-over b g xs (base.Id n) (λ t. has_term b fc t sign (length xs)) refl (λ t it. has-over b g xs n fc h xs (prefix-itself xs) t it sign) c
      (subst (λ (i : TTy). OverCases b g xs i c) may k)

  not-truth : (p : TBase) → IsCompared p → is_truth_type b (Plain p) ≡ false
  not-truth base.Bool h = absurd h
  not-truth base.Int h = refl
  not-truth base.Text h = refl
  not-truth (base.Id m) h = refl

  mutual
    pub over : (x : Expr) (scope : Scope) (scene : Scene) (xs : List ℕ) → OverScene b g xs scope scene → (t : TTy) → IsExpr s scope t x → OverCases b g xs t (cases_of b written scene x)
    over (flag y) scope scene xs h t e = (e, λ zs q sign. constant-over g zs (same_truth sign y))
    over (num n) scope scene xs h t e = (base.Int, e.0, refl, λ zs q. refl)
    over (str bytes) scope scene xs h t e = (base.Text, e.0, refl, λ zs q. refl)
    over (var depth name) scope scene xs h t e = scene-at b g xs scope scene depth t h e
    over nothing scope scene xs h t e = (e.0, e.1)
    over (just x) scope scene xs h t e =
        let c : Cases = cases_of b written scene x in
        let one = over x scope scene xs h (Plain e.0) e.2 in
        elim (is_truth b c) as (λ (y : Bool). is_truth b c ≡ y → OverCases b g xs t (if y then some (truth (condition_of b c)) else continued some c)) [
          | true ↦ λ is.
              let bool : e.0 ≡ base.Bool = truth-type b e.0 (sym (shows-truth b e.0 c (over-typed b g c xs (Plain e.0) one)) ∙ is) in
              (e.0, e.1, (ap (λ (p : TBase). Plain p) bool, condition-over b g xs c (subst (λ (p : TBase). OverCases b g xs (Plain p) c) bool one)))
          | false ↦ λ is. ends-cases b g xs (Plain e.0) t some (λ end is k. (e.0, e.1, k)) c one
        ] refl
    over (get x m f) scope scene xs h t e =
        ends-cases b g xs (Plain (base.Id m)) t (of_term b none (field_cases b written m f))
        (λ end is k. term-end b g (λ (a : Cases). OverCases b g xs t a) none (field_cases b written m f) xs (base.Id m) refl (λ u it. speaks.fields m f t e.0 xs u it) end is k)
        (cases_of b written scene x) (over x scope scene xs h (Plain (base.Id m)) e.1)
    over (equal x y op) scope scene xs h t e = (
      e.0,
      equal-over b g xs e.1.0 (cases_of b written scene x) (cases_of b written scene y) (not-truth e.1.0 e.1.1)
          (over x scope scene xs h (Plain e.1.0) e.1.2) (over y scope scene xs h (Plain e.1.0) e.1.3),
    )
    over (iff x y op) scope scene xs h t e = (
      e.0,
      same-over b g xs (condition_of b (cases_of b written scene x)) (condition_of b (cases_of b written scene y))
          (condition-over b g xs (cases_of b written scene x) (over x scope scene xs h (Plain base.Bool) e.1))
          (condition-over b g xs (cases_of b written scene y) (over y scope scene xs h (Plain base.Bool) e.2)),
    )
    over (less x y op) scope scene xs h t e = (
      e.0,
      less-over b g xs (cases_of b written scene x) (cases_of b written scene y)
          (over x scope scene xs h (Plain base.Int) e.1) (over y scope scene xs h (Plain base.Int) e.2),
    )
    over (within x m set) scope scene xs h t e = (
      e.0,
      λ zs q sign.
          let more = scene-more b g xs zs scope scene q h in
          terms-over b g zs (base.Id m) (λ u. is_in b written scene set (record_at m u) sign (length zs)) refl
          (λ u it. in-over set scope scene zs more (records m) e.2 (record_at m u) it sign)
          (cases_of b written scene x) (over x scope scene zs more (Plain (base.Id m)) e.1),
    )
    over (negation x) scope scene xs h t e =
        let one = condition-over b g xs (cases_of b written scene x) (over x scope scene xs h (Plain base.Bool) e.1) in
        (e.0, λ zs q sign. one zs q (not sign))
    over (both x y) scope scene xs h t e =
        let one = condition-over b g xs (cases_of b written scene x) (over x scope scene xs h (Plain base.Bool) e.1) in
        let two = condition-over b g xs (cases_of b written scene y) (over y scope scene xs h (Plain base.Bool) e.2) in
        (e.0, λ zs q sign. and-over g zs sign (condition_of b (cases_of b written scene x) sign (length zs)) (condition_of b (cases_of b written scene y) sign (length zs)) (one zs q sign) (two zs q sign))
    over (either x y) scope scene xs h t e =
        let one = condition-over b g xs (cases_of b written scene x) (over x scope scene xs h (Plain base.Bool) e.1) in
        let two = condition-over b g xs (cases_of b written scene y) (over y scope scene xs h (Plain base.Bool) e.2) in
        (e.0, λ zs q sign. and-over g zs (not sign) (condition_of b (cases_of b written scene x) sign (length zs)) (condition_of b (cases_of b written scene y) sign (length zs)) (one zs q sign) (two zs q sign))
    over (if_expr c x y) scope scene xs h t e =
        (condition-over b g xs (cases_of b written scene c) (over c scope scene xs h (Plain base.Bool) e.0), over x scope scene xs h t e.1, over y scope scene xs h t e.2)
    over (match_expr x y name z) scope scene xs h t e =
        ends-cases b g xs (Opt e.0) t (of_option b choice (cases_of b written scene y) (λ c. cases_of b written (scene ++ c ∷ []) z))
        (λ end is k. option-end b g {A = Cases} (λ a. OverCases b g xs t a) choice xs (λ c one x y i j. (one, i, j)) e.0
        (cases_of b written scene y) (λ c. cases_of b written (scene ++ c ∷ []) z) (over y scope scene xs h t e.2)
        (λ c k. over z (scope ++ Plain e.0 ∷ []) (scene ++ c ∷ []) xs (scene-and b g xs scope scene (Plain e.0) c h k) t e.3) end is k)
        (cases_of b written scene x) (over x scope scene xs h (Opt e.0) e.1)

    pub in-over : (x : SetExpr) (scope : Scope) (scene : Scene) (xs : List ℕ) → OverScene b g xs scope scene → (w : Content) → IsSet s scope w x
        → (a : Who) → OverWho b g xs a → (sign : Bool) → IsOver g xs (is_in b written scene x a sign (length xs))
    in-over everyone scope scene xs h w e a is sign = constant-over g xs sign
    in-over nobody scope scene xs h w e a is sign = constant-over g xs (not sign)
    in-over (listed items) scope scene xs h w e a is sign = any-over g xs sign (items_in b written scene items a sign (length xs)) (items-over items scope scene xs h w e a is sign)
    in-over (union x y) scope scene xs h w e a is sign =
        and-over g xs (not sign) (is_in b written scene x a sign (length xs)) (is_in b written scene y a sign (length xs))
        (in-over x scope scene xs h w e.0 a is sign) (in-over y scope scene xs h w e.1 a is sign)
    in-over (minus x y) scope scene xs h w e a is sign =
        and-over g xs sign (is_in b written scene x a sign (length xs)) (is_in b written scene y a (not sign) (length xs))
        (in-over x scope scene xs h w e.0 a is sign) (in-over y scope scene xs h w e.1 a is (not sign))
    in-over (find m filters) scope scene xs h w e a is sign =
        model-over m xs a is (λ t sign above. all_if sign (filters_at b written scene m filters t sign above)) sign (length xs)
        (λ u it. all-over g xs sign (filters_at b written scene m filters u sign (length xs)) (filters-over filters scope scene xs h m e.2 u it sign))
    in-over (path m x) scope scene xs h w e a is sign =
        model-over m xs a is (has_term b (cases_of b written scene x)) sign (length xs)
        (λ u it. has-over b g xs m (cases_of b written scene x) (over x scope scene xs h (Set m) e.1) xs (prefix-itself xs) u it sign)
    in-over (mapped set n name m x) scope scene xs h w e a is sign =
        let u : Term = bound (sort_of b n) (length xs) in
        let zs : List ℕ = xs ++ sort_of b n ∷ [] in
        let q : IsPrefix xs zs = prefix-more xs (sort_of b n) in
        let more = scene-more b g xs zs scope scene q h in
        let inner = scene-and b g zs scope scene (Plain (base.Id n)) (at_term u) more (base.Id n, refl, refl, next-over n xs) in
        let body : Term → Formula = λ t. of_model m a (λ u sign above. atom sign (tree.equal u t)) sign (suc (length xs)) in
        let left : Formula = is_in b written scene set (record_at n u) sign (suc (length xs)) in
        let right : Formula = at_terms b (suc (length xs)) body (cases_of b written (scene ++ at_term u ∷ []) x) in
        exists-over g xs sign (sort_of b n) (and_if sign left right) (speaks.sorts n e.1)
        (and-over g zs sign left right
        (subst (λ (i : ℕ). IsOver g zs (is_in b written scene set (record_at n u) sign i)) (longer xs (sort_of b n)) (in-over set scope scene zs more (records n) e.2 (record_at n u) (next-over n xs) sign))
        (subst (λ (i : ℕ). IsOver g zs (at_terms b i body (cases_of b written (scene ++ at_term u ∷ []) x))) (longer xs (sort_of b n))
        (terms-over b g zs (base.Id m) body refl (λ t it. item-over m zs a (overwho-more b g xs zs a q is) t it sign (suc (length xs)))
        (cases_of b written (scene ++ at_term u ∷ []) x) (over x (scope ++ Plain (base.Id n) ∷ []) (scene ++ at_term u ∷ []) zs inner (Plain (base.Id m)) e.3))))
    in-over (flat_mapped set n name c) scope scene xs h w e a is sign =
        let u : Term = bound (sort_of b n) (length xs) in
        let zs : List ℕ = xs ++ sort_of b n ∷ [] in
        let q : IsPrefix xs zs = prefix-more xs (sort_of b n) in
        let more = scene-more b g xs zs scope scene q h in
        let inner = scene-and b g zs scope scene (Plain (base.Id n)) (at_term u) more (base.Id n, refl, refl, next-over n xs) in
        let left : Formula = is_in b written scene set (record_at n u) sign (suc (length xs)) in
        let right : Formula = is_in b written (scene ++ at_term u ∷ []) c a sign (suc (length xs)) in
        exists-over g xs sign (sort_of b n) (and_if sign left right) (speaks.sorts n e.0)
        (and-over g zs sign left right
        (subst (λ (i : ℕ). IsOver g zs (is_in b written scene set (record_at n u) sign i)) (longer xs (sort_of b n)) (in-over set scope scene zs more (records n) e.1 (record_at n u) (next-over n xs) sign))
        (subst (λ (i : ℕ). IsOver g zs (is_in b written (scene ++ at_term u ∷ []) c a sign i)) (longer xs (sort_of b n))
        (in-over c (scope ++ Plain (base.Id n) ∷ []) (scene ++ at_term u ∷ []) zs inner w e.2 a (overwho-more b g xs zs a q is) sign)))
    in-over (if_set c x y) scope scene xs h w e a is sign =
        chosen-over b g xs (condition_of b (cases_of b written scene c)) (condition-over b g xs (cases_of b written scene c) (over c scope scene xs h (Plain base.Bool) e.0))
        (is_in b written scene x a sign (length xs)) (is_in b written scene y a sign (length xs)) (in-over x scope scene xs h w e.1 a is sign) (in-over y scope scene xs h w e.2 a is sign)
    in-over (match_set x y name z) scope scene xs h w e a is sign =
        ends-over b g xs (Opt e.0)
        (of_option b (chosen (length xs)) (is_in b written scene y a sign (length xs)) (λ c. is_in b written (scene ++ c ∷ []) z a sign (length xs)))
        (λ end at k. option-end b g {A = Formula} (λ f. IsOver g xs f) (chosen (length xs)) xs (λ c one x y i j. chosen-over b g xs c one x y i j) e.0
        (is_in b written scene y a sign (length xs)) (λ c. is_in b written (scene ++ c ∷ []) z a sign (length xs)) (in-over y scope scene xs h w e.2 a is sign)
        (λ c k. in-over z (scope ++ Plain e.0 ∷ []) (scene ++ c ∷ []) xs (scene-and b g xs scope scene (Plain e.0) c h k) w e.3 a is sign) end at k)
        (cases_of b written scene x) (over x scope scene xs h (Opt e.0) e.1)

    items-over : (x : Items) (scope : Scope) (scene : Scene) (xs : List ℕ) → OverScene b g xs scope scene → (w : Content) → AreItems s scope w x
        → (a : Who) → OverWho b g xs a → (sign : Bool) → AllByRecursion (IsOver g xs) (items_in b written scene x a sign (length xs))
    items-over no_items scope scene xs h w e a is sign = tt
    items-over (static_item n items) scope scene xs h w e a is sign = (constant-over g xs (same_truth sign (form.is_static n a)), items-over items scope scene xs h w e.2 a is sign)
    items-over (record_item m x items) scope scene xs h w e a is sign = (
      terms-over b g xs (base.Id m) (λ t. of_model m a (λ u sign above. atom sign (tree.equal u t)) sign (length xs)) refl (λ t it. item-over m xs a is t it sign (length xs))
          (cases_of b written scene x) (over x scope scene xs h (Plain (base.Id m)) e.1),
      items-over items scope scene xs h w e.2 a is sign,
    )

    filters-over : (x : Filters) (scope : Scope) (scene : Scene) (xs : List ℕ) → OverScene b g xs scope scene → (m : ℕ) → AreFilters s scope m x
        → (u : Term) → HasTerm b g xs (base.Id m) u → (sign : Bool) → AllByRecursion (IsOver g xs) (filters_at b written scene m x u sign (length xs))
    filters-over no_filters scope scene xs h m e u it sign = tt
    filters-over (filter_and f op x filters) scope scene xs h m e u it sign = (
      pass-over xs op e.0.0 e.0.1 e.0.3 (field_cases b written m f u) (speaks.fields m f e.0.0 e.0.2 xs u it) (cases_of b written scene x) (over x scope scene xs h e.0.1 e.0.4) sign,
      filters-over filters scope scene xs h m e.1 u it sign,
    )

  pub allowed-over : (m : ℕ) (p : Policy) → IsPolicy s m p → (xs : List ℕ) (r : Term) → HasTerm b g xs (base.Id m) r → (a : Who) → OverWho b g xs a → (sign : Bool)
      → IsOver g xs (is_allowed b written p r a sign (length xs))
  allowed-over m to_all e xs r it a is sign = constant-over g xs sign
  allowed-over m to_none e xs r it a is sign = constant-over g xs (not sign)
  allowed-over m (by_record name set) e xs r it a is sign =
      in-over set (Plain (base.Id m) ∷ []) (at_term r ∷ []) xs ((base.Id m, refl, refl, it), tt) principals e a is sign

  pub init-over : (m : ℕ) (t : TTy) (init : Init) → IsInit s m t init → (xs : List ℕ) (u : Term) → HasTerm b g xs (base.Id m) u → OverCases b g xs t (init_cases b written init u)
  init-over m t (plain x) is xs u it = over x (Plain (base.Id m) ∷ []) (at_term u ∷ []) xs ((base.Id m, refl, refl, it), tt) t is.1
  init-over m t (of_set n set) is xs u it = (
    n,
    is.0,
    λ zs q w other sign.
        in-over set (Plain (base.Id m) ∷ []) (at_term u ∷ []) zs ((base.Id m, refl, refl, λ ws r. it ws (prefix-along xs zs ws q r)), tt) (records n) is.1 (record_at n w) other sign,
  )

  -- ---- uses

  pub none-over : (xs : List ℕ) (p : TBase) (a : Formula) → IsOver g xs a → (e : Cases) → IsEnd e → OverCases b g xs (Opt p) e → IsOver g xs (end_is_none b a e)
  none-over xs p a k (at_term u) end h = k
  none-over xs p a k (held m f u) end h = let one = h.1 xs (prefix-itself xs) in ((one.0, one.1, one.2), k)
  none-over xs p a k (truth c) end h = k
  none-over xs p a k (among c) end h = k
  none-over xs p a k none end h = k
  none-over xs p a k (some c) end h = tt
  none-over xs p a k (choice c x y) end h = absurd end

  pub some-over : (xs : List ℕ) (p : TBase) (K : Cases → Formula) → ((c : Cases) → OverCases b g xs (Plain p) c → IsOver g xs (K c))
      → (e : Cases) → IsEnd e → OverCases b g xs (Opt p) e → IsOver g xs (end_is_some b K e)
  some-over xs p K k (at_term u) end h = tt
  some-over xs p K k (held m f u) end h = let one = h.1 xs (prefix-itself xs) in ((one.0, one.1, one.2), k (held m f u) (h.0 ∙ option-type b p, h.1))
  some-over xs p K k (truth c) end h = tt
  some-over xs p K k (among c) end h = tt
  some-over xs p K k none end h = tt
  some-over xs p K k (some c) end h =
      let same : h.0 ≡ p = let e = h.1 in cc in
      k c (subst (λ (i : TBase). OverCases b g xs (Plain i) c) same h.2)
  some-over xs p K k (choice c x y) end h = absurd end
