-- Over a structure that shows a database, the cases of an expression mean its value, and the formula of a set tells who is in it.
use Rattle.std.proofs.Common.{◌≡◌, ℕ, zero, suc, Bool, true, false, not, ◌&&◌, ◌||◌, List, [], ◌∷◌, ◌++◌, length, refl, ap, sym, ◌∙◌, subst, arith, inl, inr, length-append}
use Rattle.std.specs.Prelude.{Some, ◌==◌, slice_get, if◌then◌else◌}
use Rattle.std.specs.List.{list_any}
use Rattle.std.specs.Option.{option_map}
use Rattle.std.proofs.lemmas.Bool.{eqb-true, eq-eqb}
use Rattle.text_tree.specs.declared.exprs.FilterOp.{FilterOp}
use Rattle.text_tree.specs.declared.exprs.FilterOp.TheVariants.{Cmp, Has}
use Rattle.type_schema.specs.declared.types.TBase.{TBase}
use Rattle.type_schema.specs.declared.types.TBase.TheVariants as base
use Rattle.type_schema.specs.declared.types.TTy.{TTy}
use Rattle.type_schema.specs.declared.types.TTy.TheVariants.{Plain, Set, Opt}
use Rattle.type_schema.specs.Trees.{Expr, flag, num, str, var, nothing, just, get, equal, iff, less, within, negation, both, either, if_expr, match_expr, SetExpr, everyone, nobody, listed, union, minus, find, path, mapped, flat_mapped, if_set, match_set, Items, no_items, static_item, record_item, Filters, no_filters, filter_and, Policy, to_all, to_none, by_record}
use Rattle.type_schema.specs.Schema.{Schema, type_of}
use Rattle.type_schema.specs.Typing.{HasModel, Scope, Content, records, principals, IsCompared, MayTest, IsExpr, IsSet, AreItems, AreFilters, IsPolicy}
use Rattle.data_meaning.specs.declared.principals.Principal.{Principal}
use Rattle.data_meaning.specs.declared.principals.Principal.TheVariants as who
use Rattle.data_meaning.specs.Values.{Value, Id, Just}
use Rattle.data_meaning.specs.Database.{Database, ids_of, field_at, has_record}
use Rattle.data_meaning.specs.Meaning.{Env, same_truth, truth_of, id_of, set_of, passes, taken_apart, is_record, is_among, is_static, id_of_record, value_of, member, is_listed, meets, allows}
use Rattle.form_formula.specs.declared.structure.SVal.TheVariants as sval
use Rattle.form_formula.specs.declared.structure.Structure.{Structure}
use Rattle.form_formula.specs.Trees.{Term, Formula, no, bound}
use Rattle.form_formula.specs.Trees as tree
use Rattle.form_formula.specs.Truth.{both_pass, size_of}
use Rattle.form_formula.specs.Truth as formula
use Rattle.duty_meaning.specs.Structures.{sort_of, element_of}
use Rattle.duty_meaning.specs.Cases.{Condition, constant, atom, and_if, all_if, chosen, Cases, at_term, held, truth, among, none, some, choice, continued, of_term, at_terms, is_present, of_option, condition_of, has_term, is_truth_type, is_truth}
use Rattle.duty_meaning.specs.Formulas.{Who, static, record_at, of_each_kind, of_model, Scene, Written, field_cases, cases_of, is_in, items_in, filters_at, is_allowed}
use Rattle.duty_meaning.specs.Formulas as form
use Rattle.duty_meaning.proofs.Signed.{and-assoc, same-not, same-sign, same-unsign, constant-truth, atom-truth, and-truth, or-truth, chosen-truth, exists-truth, AreAny, AreAll, any-truth, all-truth}
use Rattle.duty_meaning.proofs.Means.{prefix-itself, prefix-more, HasType, shows-truth, truth-type, option-type, AreTyped, typed-at, typed-more, IsTermOf, IsConditionOf, Means, Stands, stands-at, stands-typed, stands-more, stands-and, IsWho, who-more}
use Rattle.duty_meaning.proofs.Ends.{IsEnd, ends-typed, ends-true, ends-mean, term-end, terms-true, condition-means, truth-value, not-condition, same-conditions, has-means, entries-equal, equal-means, less-means, comparison-means}

-- The structure, whose sorts and functions are numbered by the schema b and whose elements are the records of the database d, shows what
-- the schema s says of the database that there is now: what a field holds, and the records of each model.
pub record Shows (b s : Schema) (written : Written) (st : Structure) (d now : Database) : Type 0 where
  pub fields : (m f : ℕ) (t : TTy) → type_of s m f ≡ Some t → (xs : List ℕ) (v : Value) (u : Term) → IsTermOf b st d xs (base.Id m) v u
      → Means b st d xs t (field_at now m (id_of v) f) (field_cases b written m f u)
  pub types : (m f : ℕ) (t : TTy) → type_of s m f ≡ Some t → (u : Term) → HasType b t (field_cases b written m f u)
  pub ids : (m : ℕ) → HasModel s m → ids_of now m ≡ ids_of d m
  pub sizes : (m : ℕ) → HasModel s m → size_of st (sort_of b m) ≡ length (ids_of d m)
  pub elements : (m : ℕ) → HasModel s m → (k id : ℕ) → slice_get (ids_of d m) k ≡ Some id → element_of d m id ≡ k

-- ---- types

option-typed : (b : Schema) (t : TTy) (p : TBase) (empty : Cases) (filled : Cases → Cases) → HasType b t empty
    → ((c : Cases) → HasType b (Plain p) c → HasType b t (filled c))
    → (e : Cases) → IsEnd e → HasType b (Opt p) e → HasType b t (of_option b choice empty filled e)
option-typed b t p empty filled h k (at_term u) end y = h
option-typed b t p empty filled h k (held n g u) end y = (h, k (held n g u) (y ∙ option-type b p))
option-typed b t p empty filled h k (truth c) end y = h
option-typed b t p empty filled h k (among c) end y = h
option-typed b t p empty filled h k none end y = h
option-typed b t p empty filled h k (some c) end y =
    let same : y.0 ≡ p = let one = y.1 in cc in
    k c (subst (λ (i : TBase). HasType b (Plain i) c) same y.2)
option-typed b t p empty filled h k (choice c x z) end y = absurd end

module _ (b s : Schema) (written : Written) (types : (m f : ℕ) (t : TTy) → type_of s m f ≡ Some t → (u : Term) → HasType b t (field_cases b written m f u)) where
  pub typed : (x : Expr) (scope : Scope) (scene : Scene) → AreTyped b scope scene → (t : TTy) → IsExpr s scope t x → HasType b t (cases_of b written scene x)
  typed (flag y) scope scene h t e = e
  typed (num n) scope scene h t e = (base.Int, e.0, ap (is_truth_type b) e.0)
  typed (str bytes) scope scene h t e = (base.Text, e.0, ap (is_truth_type b) e.0)
  typed (var depth name) scope scene h t e = typed-at b scope scene depth t h e
  typed nothing scope scene h t e = (e.0, e.1)
  typed (just x) scope scene h t e =
      let one = typed x scope scene h (Plain e.0) e.2 in
      let v : Cases = cases_of b written scene x in
      elim (is_truth b v) as (λ (y : Bool). is_truth b v ≡ y → HasType b t (if y then some (truth (condition_of b v)) else continued some v)) [
        | true ↦ λ is.
            let bool : e.0 ≡ base.Bool = truth-type b e.0 (sym (shows-truth b e.0 v one) ∙ is) in
            (e.0, e.1, ap (λ (p : TBase). Plain p) bool)
        | false ↦ λ is. ends-typed b some (Plain e.0) t (λ end is k. (e.0, e.1, k)) v one
      ] refl
  typed (get x m f) scope scene h t e =
      ends-typed b (of_term b none (field_cases b written m f)) (Plain (base.Id m)) t of-end (cases_of b written scene x) (typed x scope scene h (Plain (base.Id m)) e.1)
    where
      of-end : (c : Cases) → IsEnd c → HasType b (Plain (base.Id m)) c → HasType b t (of_term b none (field_cases b written m f) c)
      of-end (at_term u) is k = types m f t e.0 u
      of-end (held n g u) is k = types m f t e.0 _
      of-end (truth c) is k = let never : Plain (base.Id m) ≡ Plain base.Bool = k in cc
      of-end (among c) is k = let never = k.1 in cc
      of-end none is k = let never = k.1 in cc
      of-end (some c) is k = let never = k.1 in cc
      of-end (choice c y z) is k = absurd is
  typed (equal x y op) scope scene h t e = e.0
  typed (iff x y op) scope scene h t e = e.0
  typed (less x y op) scope scene h t e = e.0
  typed (within x m set) scope scene h t e = e.0
  typed (negation x) scope scene h t e = e.0
  typed (both x y) scope scene h t e = e.0
  typed (either x y) scope scene h t e = e.0
  typed (if_expr c x y) scope scene h t e = (typed x scope scene h t e.1, typed y scope scene h t e.2)
  typed (match_expr x y name z) scope scene h t e =
      let some_y : Cases → Cases = λ c. cases_of b written (scene ++ c ∷ []) z in
      ends-typed b (of_option b choice (cases_of b written scene y) some_y) (Opt e.0) t
      (option-typed b t e.0 (cases_of b written scene y) some_y (typed y scope scene h t e.2)
      (λ c k. typed z (scope ++ Plain e.0 ∷ []) (scene ++ c ∷ []) (typed-more b scope scene (Plain e.0) c h k) t e.3))
      (cases_of b written scene x) (typed x scope scene h (Opt e.0) e.1)

-- ---- small facts

pub get-next : (xs ys : List ℕ) (k : ℕ) → slice_get ((xs ++ k ∷ []) ++ ys) (length xs) ≡ Some k
get-next [] ys k = refl
get-next (x ∷ xs) ys k = get-next xs ys k

pub got-there : (ids : List ℕ) (k id : ℕ) → slice_get ids k ≡ Some id → list_any (λ i. i == id) ids ≡ true
got-there [] k id e = cc
got-there (i ∷ ids) zero id e = let same : i ≡ id = cc in ap (λ t. t || list_any (λ i. i == id) ids) (eq-eqb i id same)
got-there (i ∷ ids) (suc k) id e =
    elim (i == id) as (λ (t : Bool). (t || list_any (λ i. i == id) ids) ≡ true) [ true ↦ refl | false ↦ got-there ids k id e ]

module _ (b s : Schema) (written : Written) (st : Structure) (d now : Database) (shows : Shows b s written st d now) where
  -- the variable of a quantifier over the records of a model, at one of them
  pub next-is : (n : ℕ) → HasModel s n → (xs : List ℕ) (k id : ℕ) → slice_get (ids_of d n) k ≡ Some id
      → IsTermOf b st d (xs ++ k ∷ []) (base.Id n) (Id id) (bound (sort_of b n) (length xs))
  next-is n model xs k id e = λ zs q. (
    id,
    refl,
    got-there (ids_of d n) k id e,
    ap (λ l. option_map (λ x. sval.Rec x) (slice_get l (length xs))) q.1
        ∙ ap (option_map (λ x. sval.Rec x)) (get-next xs q.0 k)
        ∙ ap (λ i. Some (sval.Rec i)) (sym (shows.elements n model k id e)),
  )

  pub longer : (xs : List ℕ) (k : ℕ) → suc (length xs) ≡ length (xs ++ k ∷ [])
  longer xs k = omega (arith, length-append xs (k ∷ []))

  -- whether a principal is a record of the model that passes a test
  of-kind : (m : ℕ) (xs : List ℕ) (q : Principal) (w : Who) → IsWho b st d xs q w → (k : Term → Condition) (P : ℕ → Bool) (sign : Bool) (above : ℕ)
      → ((id : ℕ) (u : Term) → IsTermOf b st d xs (base.Id m) (Id id) u → formula.truth st xs (k u sign above) ≡ same_truth sign (P id))
      → (test : Principal → Bool) → ((n : ℕ) → test (who.Static n) ≡ false) → ((n id : ℕ) → test (who.Rec n id) ≡ ((n == m) && P id))
      → formula.truth st xs (of_model m w k sign above) ≡ same_truth sign (test q)
  of-kind m xs (who.Static n) (static i) is k P sign above at test static_is record_is =
      constant-truth st xs (not sign) ∙ same-unsign sign ∙ ap (same_truth sign) (sym (static_is n))
  of-kind m xs (who.Static n) (record_at i u) is k P sign above at test static_is record_is = absurd is
  of-kind m xs (who.Static n) (of_each_kind u) is k P sign above at test static_is record_is = absurd is
  of-kind m xs (who.Rec n id) (static i) is k P sign above at test static_is record_is = absurd is
  of-kind m xs (who.Rec n id) (of_each_kind u) is k P sign above at test static_is record_is = absurd is
  of-kind m xs (who.Rec n id) (record_at i u) is k P sign above at test static_is record_is =
      subst (λ (j : ℕ). formula.truth st xs (if j == m then k u sign above else constant (not sign)) ≡ same_truth sign (test (who.Rec n id))) is.0
      ((elim (n == m) as (λ (y : Bool). (n == m) ≡ y → formula.truth st xs (if y then k u sign above else constant (not sign)) ≡ same_truth sign (y && P id)) [
        | true ↦ λ e. at id u (subst (λ (i : ℕ). IsTermOf b st d xs (base.Id i) (Id id) u) (eqb-true n m e) is.1)
        | false ↦ λ e. constant-truth st xs (not sign) ∙ same-unsign sign
      ] refl) ∙ ap (same_truth sign) (sym (record_is n id)))

  -- the id of a record, as a value
  pub id-term : (m : ℕ) (xs : List ℕ) (v : Value) (u : Term) → IsTermOf b st d xs (base.Id m) v u → IsTermOf b st d xs (base.Id m) (Id (id_of v)) u
  id-term m xs v u it = λ zs q.
      let one = it zs q in
      let same : id_of v ≡ one.0 = ap id_of one.1 in
      (id_of v, refl, ap (has_record d m) same ∙ one.2, one.3 ∙ ap (λ i. Some (sval.Rec (element_of d m i))) (sym same))

  pub own-there : (m : ℕ) (xs : List ℕ) (id : ℕ) (u : Term) → IsTermOf b st d xs (base.Id m) (Id id) u → has_record d m id ≡ true
  own-there m xs id u it = let one = it xs (prefix-itself xs) in ap (has_record d m) (ap id_of one.1) ∙ one.2

  -- the test of an item or of what `map` gives
  item-is : (m : ℕ) (xs : List ℕ) (q : Principal) (w : Who) → IsWho b st d xs q w → (v : Value) (t : Term) → IsTermOf b st d xs (base.Id m) v t
      → (sign : Bool) (above : ℕ) → formula.truth st xs (of_model m w (λ u sign above. atom sign (tree.equal u t)) sign above) ≡ same_truth sign (is_record m v q)
  item-is m xs q w is v t it sign above =
      of-kind m xs q w is (λ u sign above. atom sign (tree.equal u t)) (λ id. id == id_of v) sign above
      (λ id u at. atom-truth st xs sign (tree.equal u t)
      ∙ ap (same_truth sign) (entries-equal b st d (base.Id m) (Id id) v (formula.value_of st xs u) (formula.value_of st xs t) refl (at xs (prefix-itself xs)) (it xs (prefix-itself xs))))
      (is_record m v) (λ n. refl) (λ n id. refl)

  static-is : (n : ℕ) (xs : List ℕ) (q : Principal) (w : Who) → IsWho b st d xs q w → form.is_static n w ≡ is_static n q
  static-is n xs (who.Static k) (static i) is = ap (λ j. j == n) (sym is)
  static-is n xs (who.Static k) (record_at i u) is = absurd is
  static-is n xs (who.Static k) (of_each_kind u) is = absurd is
  static-is n xs (who.Rec k id) (static i) is = absurd is
  static-is n xs (who.Rec k id) (record_at i u) is = refl
  static-is n xs (who.Rec k id) (of_each_kind u) is = absurd is

  -- a truth value as a condition
  pub holds : (x : Expr) (scope : Scope) (env : Env) (scene : Scene) (xs : List ℕ) → Stands b st d xs scope env scene → IsExpr s scope (Plain base.Bool) x
      → Means b st d xs (Plain base.Bool) (value_of now env x) (cases_of b written scene x)
      → IsConditionOf b st d xs (truth_of (value_of now env x)) (condition_of b (cases_of b written scene x))
  holds x scope env scene xs h e one =
      condition-means b st d xs (value_of now env x) (cases_of b written scene x) one
      (typed b s written shows.types x scope scene (stands-typed b st d xs scope env scene h) (Plain base.Bool) e)

  not-truth : (p : TBase) → IsCompared p → is_truth_type b (Plain p) ≡ false
  not-truth base.Bool h = absurd h
  not-truth base.Int h = refl
  not-truth base.Text h = refl
  not-truth (base.Id m) h = refl

  -- what stands at an end for none, and for some value
  option-end : {V A : Type 0} (R : V → A → Type 0) (choose : Condition → A → A → A) (xs : List ℕ)
      → ((c : Condition) (taken : Bool) → IsConditionOf b st d xs taken c → (r : V) (a1 a2 : A) → (taken ≡ true → R r a1) → (taken ≡ false → R r a2) → R r (choose c a1 a2))
      → (p : TBase) (v : Value) (empty : A) (filled : Cases → A) (empty_value : V) (filled_value : Value → V) → R empty_value empty
      → ((w : Value) (c : Cases) → Means b st d xs (Plain p) w c → HasType b (Plain p) c → R (filled_value w) (filled c))
      → (e : Cases) → IsEnd e → Means b st d xs (Opt p) v e → HasType b (Opt p) e → R (taken_apart v empty_value filled_value) (of_option b choose empty filled e)
  option-end {V} {A} R choose xs ok p v empty filled empty_value filled_value at_none at_some (at_term u) end h y = let never = h.1 in cc
  option-end {V} {A} R choose xs ok p v empty filled empty_value filled_value at_none at_some (held m f u) end h y =
      elim h [
        | inl is ↦
            subst (λ (x : Value). R (taken_apart x empty_value filled_value) (of_option b choose empty filled (held m f u))) (sym is.0)
            (ok (λ sign above. is_present b m f u (not sign) above) true (not-condition b st d xs false (is_present b m f u) is.1)
            empty_value empty (filled (held m f u)) (λ e. at_none) (λ e. cc))
        | inr is ↦
            subst (λ (x : Value). R (taken_apart x empty_value filled_value) (of_option b choose empty filled (held m f u))) (sym is.1)
            (ok (λ sign above. is_present b m f u (not sign) above) false (not-condition b st d xs true (is_present b m f u) is.2)
            (filled_value is.0) empty (filled (held m f u)) (λ e. cc) (λ e. at_some is.0 (held m f u) is.3 (y ∙ option-type b p)))
      ]
  option-end {V} {A} R choose xs ok p v empty filled empty_value filled_value at_none at_some (truth c) end h y = let never = h.0 in cc
  option-end {V} {A} R choose xs ok p v empty filled empty_value filled_value at_none at_some (among c) end h y = let never = h.1 in cc
  option-end {V} {A} R choose xs ok p v empty filled empty_value filled_value at_none at_some none end h y =
      subst (λ (x : Value). R (taken_apart x empty_value filled_value) empty) (sym h.2) at_none
  option-end {V} {A} R choose xs ok p v empty filled empty_value filled_value at_none at_some (some c) end h y =
      let one : h.0 ≡ p = let e = h.1 in cc in
      let two : y.0 ≡ p = let e = y.1 in cc in
      subst (λ (x : Value). R (taken_apart x empty_value filled_value) (filled c)) (sym h.2.1)
      (at_some h.2.0 c (subst (λ (i : TBase). Means b st d xs (Plain i) h.2.0 c) one h.2.2) (subst (λ (i : TBase). HasType b (Plain i) c) two y.2))
  option-end {V} {A} R choose xs ok p v empty filled empty_value filled_value at_none at_some (choice c x z) end h y = absurd end

  -- the test of a filter
  pass : (xs : List ℕ) (op : FilterOp) (held asked : TTy) → MayTest s op held asked → (fv : Value) (fc : Cases) → Means b st d xs held fv fc → HasType b held fc
      → (v : Value) (c : Cases) → Means b st d xs asked v c → HasType b asked c
      → (sign : Bool) → formula.truth st xs (form.passes b written op fc c sign (length xs)) ≡ same_truth sign (passes op fv v)
  pass xs (Cmp op) (Plain p) asked may fv fc h y v c k z sign =
      comparison-means b st d op p may.0 xs fv v fc c h y
      (subst (λ (i : TTy). Means b st d xs i v c) may.1 k) (subst (λ (i : TTy). HasType b i c) may.1 z) sign
  pass xs (Cmp op) (Set n) asked may fv fc h y v c k z sign = absurd may
  pass xs (Cmp op) (Opt p) asked may fv fc h y v c k z sign = absurd may
  pass xs Has (Plain p) asked may fv fc h y v c k z sign = absurd may
  pass xs Has (Opt p) asked may fv fc h y v c k z sign = absurd may
  pass xs Has (Set n) asked may fv fc h y v c k z sign =
      terms-true b st d xs (base.Id n) v (λ t. has_term b fc t sign (length xs)) (same_truth sign (list_any (λ i. i == id_of v) (set_of fv))) refl
      (λ t it. has-means b st d xs n fv fc h y xs (prefix-itself xs) (id_of v) t (id-term n xs v t it) sign)
      c (subst (λ (i : TTy). Means b st d xs i v c) may k) (subst (λ (i : TTy). HasType b i c) may z)

  mutual
    pub means : (x : Expr) (scope : Scope) (env : Env) (scene : Scene) (xs : List ℕ) → Stands b st d xs scope env scene → (t : TTy) → IsExpr s scope t x
        → Means b st d xs t (value_of now env x) (cases_of b written scene x)
    means (flag y) scope env scene xs h t e = (
      e,
      refl,
      λ zs q sign. constant-truth st zs (same_truth sign y),
    )
    means (num n) scope env scene xs h t e = (base.Int, e.0, refl, λ zs q. (n, refl, refl))
    means (str bytes) scope env scene xs h t e = (base.Text, e.0, refl, λ zs q. (bytes, refl, refl))
    means (var depth name) scope env scene xs h t e = stands-at b st d xs scope env scene depth t h e
    means nothing scope env scene xs h t e = (e.0, e.1, refl)
    means (just x) scope env scene xs h t e =
        let v : Value = value_of now env x in
        let c : Cases = cases_of b written scene x in
        let one = means x scope env scene xs h (Plain e.0) e.2 in
        let ty = typed b s written shows.types x scope scene (stands-typed b st d xs scope env scene h) (Plain e.0) e.2 in
        elim (is_truth b c) as (λ (y : Bool). is_truth b c ≡ y → Means b st d xs t (Just v) (if y then some (truth (condition_of b c)) else continued some c)) [
          | true ↦ λ is.
              let bool : e.0 ≡ base.Bool = truth-type b e.0 (sym (shows-truth b e.0 c ty) ∙ is) in
              let one' : Means b st d xs (Plain base.Bool) v c = subst (λ (p : TBase). Means b st d xs (Plain p) v c) bool one in
              let ty' : HasType b (Plain base.Bool) c = subst (λ (p : TBase). HasType b (Plain p) c) bool ty in
              (e.0, e.1, (v, refl, (ap (λ (p : TBase). Plain p) bool, truth-value b st d xs v c one', condition-means b st d xs v c one' ty')))
          | false ↦ λ is. ends-mean b st d xs (Plain e.0) t v (Just v) some (λ end is k l. (e.0, e.1, (v, refl, k))) c one ty
        ] refl
    means (get x m f) scope env scene xs h t e =
        let v : Value = value_of now env x in
        let c : Cases = cases_of b written scene x in
        ends-mean b st d xs (Plain (base.Id m)) t v (field_at now m (id_of v) f) (of_term b none (field_cases b written m f))
        (λ end is k l. term-end b st d (λ (a : Cases). Means b st d xs t (field_at now m (id_of v) f) a) none (field_cases b written m f) xs (base.Id m) v refl
        (λ u it. shows.fields m f t e.0 xs v u it) end is k)
        c (means x scope env scene xs h (Plain (base.Id m)) e.1)
        (typed b s written shows.types x scope scene (stands-typed b st d xs scope env scene h) (Plain (base.Id m)) e.1)
    means (equal x y op) scope env scene xs h t e =
        let v : Value = value_of now env x in
        let w : Value = value_of now env y in
        let ts = stands-typed b st d xs scope env scene h in (
          e.0,
          refl,
          equal-means b st d xs e.1.0 v w (cases_of b written scene x) (cases_of b written scene y) (not-truth e.1.0 e.1.1)
              (means x scope env scene xs h (Plain e.1.0) e.1.2) (typed b s written shows.types x scope scene ts (Plain e.1.0) e.1.2)
              (means y scope env scene xs h (Plain e.1.0) e.1.3) (typed b s written shows.types y scope scene ts (Plain e.1.0) e.1.3),
        )
    means (iff x y op) scope env scene xs h t e = (
      e.0,
      refl,
      same-conditions b st d xs (truth_of (value_of now env x)) (truth_of (value_of now env y))
          (condition_of b (cases_of b written scene x)) (condition_of b (cases_of b written scene y))
          (holds x scope env scene xs h e.1 (means x scope env scene xs h (Plain base.Bool) e.1)) (holds y scope env scene xs h e.2 (means y scope env scene xs h (Plain base.Bool) e.2)),
    )
    means (less x y op) scope env scene xs h t e =
        let ts = stands-typed b st d xs scope env scene h in (
          e.0,
          refl,
          less-means b st d xs (value_of now env x) (value_of now env y) (cases_of b written scene x) (cases_of b written scene y)
              (means x scope env scene xs h (Plain base.Int) e.1) (typed b s written shows.types x scope scene ts (Plain base.Int) e.1)
              (means y scope env scene xs h (Plain base.Int) e.2) (typed b s written shows.types y scope scene ts (Plain base.Int) e.2),
        )
    means (within x m set) scope env scene xs h t e = (
      e.0,
      refl,
      λ zs q sign.
          let v : Value = value_of now env x in
          let more = stands-more b st d xs zs scope env scene q h in
          terms-true b st d zs (base.Id m) v (λ u. is_in b written scene set (record_at m u) sign (length zs))
          (same_truth sign (member now env set (who.Rec m (id_of v)))) refl
          (λ u it. in-means set scope env scene zs more (records m) e.2 (who.Rec m (id_of v)) (record_at m u)
          (refl, id-term m zs v u it) sign)
          (cases_of b written scene x) (means x scope env scene zs more (Plain (base.Id m)) e.1)
          (typed b s written shows.types x scope scene (stands-typed b st d zs scope env scene more) (Plain (base.Id m)) e.1),
    )
    means (negation x) scope env scene xs h t e =
        (e.0, refl, not-condition b st d xs (truth_of (value_of now env x)) (condition_of b (cases_of b written scene x)) (holds x scope env scene xs h e.1 (means x scope env scene xs h (Plain base.Bool) e.1)))
    means (both x y) scope env scene xs h t e = (
      e.0,
      refl,
      λ zs q sign.
          and-truth st zs sign (condition_of b (cases_of b written scene x) sign (length zs)) (condition_of b (cases_of b written scene y) sign (length zs)) (truth_of (value_of now env x)) (truth_of (value_of now env y))
          (holds x scope env scene xs h e.1 (means x scope env scene xs h (Plain base.Bool) e.1) zs q sign) (holds y scope env scene xs h e.2 (means y scope env scene xs h (Plain base.Bool) e.2) zs q sign),
    )
    means (either x y) scope env scene xs h t e = (
      e.0,
      refl,
      λ zs q sign.
          or-truth st zs sign (condition_of b (cases_of b written scene x) sign (length zs)) (condition_of b (cases_of b written scene y) sign (length zs)) (truth_of (value_of now env x)) (truth_of (value_of now env y))
          (holds x scope env scene xs h e.1 (means x scope env scene xs h (Plain base.Bool) e.1) zs q sign) (holds y scope env scene xs h e.2 (means y scope env scene xs h (Plain base.Bool) e.2) zs q sign),
    )
    means (if_expr c x y) scope env scene xs h t e = (
      truth_of (value_of now env c),
      holds c scope env scene xs h e.0 (means c scope env scene xs h (Plain base.Bool) e.0),
      λ is. subst (λ (z : Bool). Means b st d xs t (if z then value_of now env x else value_of now env y) (cases_of b written scene x)) (sym is) (means x scope env scene xs h t e.1),
      λ is. subst (λ (z : Bool). Means b st d xs t (if z then value_of now env x else value_of now env y) (cases_of b written scene y)) (sym is) (means y scope env scene xs h t e.2),
    )
    means (match_expr x y name z) scope env scene xs h t e =
        let v : Value = value_of now env x in
        ends-mean b st d xs (Opt e.0) t v (taken_apart v (value_of now env y) (λ w. value_of now (env ++ w ∷ []) z))
        (of_option b choice (cases_of b written scene y) (λ c. cases_of b written (scene ++ c ∷ []) z))
        (λ end is k l. option-end {V = Value} {A = Cases} (λ r a. Means b st d xs t r a) choice xs
        (λ c taken one r a1 a2 i j. (taken, one, i, j))
        e.0 v (cases_of b written scene y) (λ c. cases_of b written (scene ++ c ∷ []) z)
        (value_of now env y) (λ w. value_of now (env ++ w ∷ []) z) (means y scope env scene xs h t e.2)
        (λ w c k l. means z (scope ++ Plain e.0 ∷ []) (env ++ w ∷ []) (scene ++ c ∷ []) xs (stands-and b st d xs scope env scene (Plain e.0) w c h k l) t e.3)
        end is k l)
        (cases_of b written scene x) (means x scope env scene xs h (Opt e.0) e.1)
        (typed b s written shows.types x scope scene (stands-typed b st d xs scope env scene h) (Opt e.0) e.1)

    pub in-means : (x : SetExpr) (scope : Scope) (env : Env) (scene : Scene) (xs : List ℕ) → Stands b st d xs scope env scene → (w : Content) → IsSet s scope w x
        → (q : Principal) (a : Who) → IsWho b st d xs q a → (sign : Bool)
        → formula.truth st xs (is_in b written scene x a sign (length xs)) ≡ same_truth sign (member now env x q)
    in-means everyone scope env scene xs h w e q a is sign = constant-truth st xs sign ∙ same-sign sign
    in-means nobody scope env scene xs h w e q a is sign = constant-truth st xs (not sign) ∙ same-unsign sign
    in-means (listed items) scope env scene xs h w e q a is sign =
        any-truth st xs sign (items_in b written scene items a sign (length xs)) (is_listed now env items q) (items-mean items scope env scene xs h w e q a is sign)
    in-means (union x y) scope env scene xs h w e q a is sign =
        or-truth st xs sign (is_in b written scene x a sign (length xs)) (is_in b written scene y a sign (length xs)) (member now env x q) (member now env y q)
        (in-means x scope env scene xs h w e.0 q a is sign) (in-means y scope env scene xs h w e.1 q a is sign)
    in-means (minus x y) scope env scene xs h w e q a is sign =
        and-truth st xs sign (is_in b written scene x a sign (length xs)) (is_in b written scene y a (not sign) (length xs)) (member now env x q) (not (member now env y q))
        (in-means x scope env scene xs h w e.0 q a is sign)
        (in-means y scope env scene xs h w e.1 q a is (not sign) ∙ same-not sign (member now env y q))
    in-means (find m filters) scope env scene xs h w e q a is sign =
        let P : ℕ → Bool = λ id. list_any (λ i. i == id) (ids_of now m) && meets now env m filters id in
        of-kind m xs q a is (λ t sign above. all_if sign (filters_at b written scene m filters t sign above)) P sign (length xs)
        (λ id u it. all-truth st xs sign (filters_at b written scene m filters u sign (length xs)) (meets now env m filters id)
        (filters-mean filters scope env scene xs h m e.2 id u it sign)
        ∙ ap (λ t. same_truth sign (t && meets now env m filters id)) (sym (ap (list_any (λ i. i == id)) (shows.ids m e.1) ∙ own-there m xs id u it)))
        (λ q. is_among m (ids_of now m) q && meets now env m filters (id_of_record q)) (λ n. refl)
        (λ n id. and-assoc (n == m) (list_any (λ i. i == id) (ids_of now m)) (meets now env m filters id))
    in-means (path m x) scope env scene xs h w e q a is sign =
        let v : Value = value_of now env x in
        of-kind m xs q a is (has_term b (cases_of b written scene x)) (λ id. list_any (λ i. i == id) (set_of v)) sign (length xs)
        (λ id u it. has-means b st d xs m v (cases_of b written scene x) (means x scope env scene xs h (Set m) e.1)
        (typed b s written shows.types x scope scene (stands-typed b st d xs scope env scene h) (Set m) e.1) xs (prefix-itself xs) id u it sign)
        (is_among m (set_of v)) (λ n. refl) (λ n id. refl)
    in-means (mapped set n name m x) scope env scene xs h w e q a is sign =
        let u : Term = bound (sort_of b n) (length xs) in
        let P : ℕ → Bool = λ y. member now env set (who.Rec n y) && is_record m (value_of now (env ++ Id y ∷ []) x) q in
        let body : Term → Formula = λ t. of_model m a (λ u sign above. atom sign (tree.equal u t)) sign (suc (length xs)) in
        let left : Formula = is_in b written scene set (record_at n u) sign (suc (length xs)) in
        let right : Formula = at_terms b (suc (length xs)) body (cases_of b written (scene ++ at_term u ∷ []) x) in
        exists-truth st xs sign (sort_of b n) (and_if sign left right) (ids_of d n) P (shows.sizes n e.1)
        (λ k id got.
        let zs : List ℕ = xs ++ k ∷ [] in
        let it = next-is n e.1 xs k id got in
        let more = stands-more b st d xs zs scope env scene (prefix-more xs k) h in
        let inner = stands-and b st d zs scope env scene (Plain (base.Id n)) (Id id) (at_term u) more (base.Id n, refl, refl, it) (base.Id n, refl, refl) in
        let v : Value = value_of now (env ++ Id id ∷ []) x in
        and-truth st zs sign left right (member now env set (who.Rec n id)) (is_record m v q)
        (ap (λ i. formula.truth st zs (is_in b written scene set (record_at n u) sign i)) (longer xs k)
        ∙ in-means set scope env scene zs more (records n) e.2 (who.Rec n id) (record_at n u) (refl, it) sign)
        (ap (λ i. formula.truth st zs (at_terms b i body (cases_of b written (scene ++ at_term u ∷ []) x))) (longer xs k)
        ∙ terms-true b st d zs (base.Id m) v body (same_truth sign (is_record m v q)) refl
        (λ t it. item-is m zs q a (who-more b st d xs zs q a (prefix-more xs k) is) v t it sign (suc (length xs)))
        (cases_of b written (scene ++ at_term u ∷ []) x)
        (means x (scope ++ Plain (base.Id n) ∷ []) (env ++ Id id ∷ []) (scene ++ at_term u ∷ []) zs inner (Plain (base.Id m)) e.3)
        (typed b s written shows.types x (scope ++ Plain (base.Id n) ∷ []) (scene ++ at_term u ∷ [])
        (stands-typed b st d zs (scope ++ Plain (base.Id n) ∷ []) (env ++ Id id ∷ []) (scene ++ at_term u ∷ []) inner) (Plain (base.Id m)) e.3)))
        ∙ ap (λ l. same_truth sign (list_any P l)) (sym (shows.ids n e.1))
    in-means (flat_mapped set n name body) scope env scene xs h w e q a is sign =
        let u : Term = bound (sort_of b n) (length xs) in
        let P : ℕ → Bool = λ y. member now env set (who.Rec n y) && member now (env ++ Id y ∷ []) body q in
        let left : Formula = is_in b written scene set (record_at n u) sign (suc (length xs)) in
        let right : Formula = is_in b written (scene ++ at_term u ∷ []) body a sign (suc (length xs)) in
        exists-truth st xs sign (sort_of b n) (and_if sign left right) (ids_of d n) P (shows.sizes n e.0)
        (λ k id got.
        let zs : List ℕ = xs ++ k ∷ [] in
        let it = next-is n e.0 xs k id got in
        let more = stands-more b st d xs zs scope env scene (prefix-more xs k) h in
        let inner = stands-and b st d zs scope env scene (Plain (base.Id n)) (Id id) (at_term u) more (base.Id n, refl, refl, it) (base.Id n, refl, refl) in
        and-truth st zs sign left right (member now env set (who.Rec n id)) (member now (env ++ Id id ∷ []) body q)
        (ap (λ i. formula.truth st zs (is_in b written scene set (record_at n u) sign i)) (longer xs k)
        ∙ in-means set scope env scene zs more (records n) e.1 (who.Rec n id) (record_at n u) (refl, it) sign)
        (ap (λ i. formula.truth st zs (is_in b written (scene ++ at_term u ∷ []) body a sign i)) (longer xs k)
        ∙ in-means body (scope ++ Plain (base.Id n) ∷ []) (env ++ Id id ∷ []) (scene ++ at_term u ∷ []) zs inner w e.2 q a
        (who-more b st d xs zs q a (prefix-more xs k) is) sign))
        ∙ ap (λ l. same_truth sign (list_any P l)) (sym (shows.ids n e.0))
    in-means (if_set c x y) scope env scene xs h w e q a is sign =
        chosen-truth st xs (length xs) (condition_of b (cases_of b written scene c)) (truth_of (value_of now env c))
        (λ z. holds c scope env scene xs h e.0 (means c scope env scene xs h (Plain base.Bool) e.0) xs (prefix-itself xs) z)
        (is_in b written scene x a sign (length xs)) (is_in b written scene y a sign (length xs)) (same_truth sign (if truth_of (value_of now env c) then member now env x q else member now env y q))
        (λ z. in-means x scope env scene xs h w e.1 q a is sign ∙ ap (λ t. same_truth sign (if t then member now env x q else member now env y q)) (sym z))
        (λ z. in-means y scope env scene xs h w e.2 q a is sign ∙ ap (λ t. same_truth sign (if t then member now env x q else member now env y q)) (sym z))
    in-means (match_set x y name z) scope env scene xs h w e q a is sign =
        let v : Value = value_of now env x in
        ends-true b st d xs (Opt e.0) v
        (of_option b (chosen (length xs)) (is_in b written scene y a sign (length xs)) (λ c. is_in b written (scene ++ c ∷ []) z a sign (length xs)))
        (same_truth sign (taken_apart v (member now env y q) (λ u. member now (env ++ u ∷ []) z q)))
        (λ end at k l. option-end {V = Bool} {A = Formula} (λ r f. formula.truth st xs f ≡ same_truth sign r) (chosen (length xs)) xs
        (λ c taken one r f g i j. chosen-truth st xs (length xs) c taken (λ z. one xs (prefix-itself xs) z) f g (same_truth sign r) i j)
        e.0 v (is_in b written scene y a sign (length xs)) (λ c. is_in b written (scene ++ c ∷ []) z a sign (length xs))
        (member now env y q) (λ u. member now (env ++ u ∷ []) z q)
        (in-means y scope env scene xs h w e.2 q a is sign)
        (λ u c k l. in-means z (scope ++ Plain e.0 ∷ []) (env ++ u ∷ []) (scene ++ c ∷ []) xs (stands-and b st d xs scope env scene (Plain e.0) u c h k l) w e.3 q a is sign)
        end at k l)
        (cases_of b written scene x) (means x scope env scene xs h (Opt e.0) e.1)
        (typed b s written shows.types x scope scene (stands-typed b st d xs scope env scene h) (Opt e.0) e.1)

    items-mean : (x : Items) (scope : Scope) (env : Env) (scene : Scene) (xs : List ℕ) → Stands b st d xs scope env scene → (w : Content) → AreItems s scope w x
        → (q : Principal) (a : Who) → IsWho b st d xs q a → (sign : Bool)
        → AreAny st xs sign (items_in b written scene x a sign (length xs)) (is_listed now env x q)
    items-mean no_items scope env scene xs h w e q a is sign = refl
    items-mean (static_item n items) scope env scene xs h w e q a is sign = (
      is_static n q,
      is_listed now env items q,
      refl,
      constant-truth st xs (same_truth sign (form.is_static n a)) ∙ ap (same_truth sign) (static-is n xs q a is),
      items-mean items scope env scene xs h w e.2 q a is sign,
    )
    items-mean (record_item m x items) scope env scene xs h w e q a is sign =
        let v : Value = value_of now env x in (
          is_record m v q,
          is_listed now env items q,
          refl,
          terms-true b st d xs (base.Id m) v (λ t. of_model m a (λ u sign above. atom sign (tree.equal u t)) sign (length xs)) (same_truth sign (is_record m v q)) refl
              (λ t it. item-is m xs q a is v t it sign (length xs))
              (cases_of b written scene x) (means x scope env scene xs h (Plain (base.Id m)) e.1)
              (typed b s written shows.types x scope scene (stands-typed b st d xs scope env scene h) (Plain (base.Id m)) e.1),
          items-mean items scope env scene xs h w e.2 q a is sign,
        )

    filters-mean : (x : Filters) (scope : Scope) (env : Env) (scene : Scene) (xs : List ℕ) → Stands b st d xs scope env scene → (m : ℕ) → AreFilters s scope m x
        → (id : ℕ) (u : Term) → IsTermOf b st d xs (base.Id m) (Id id) u → (sign : Bool)
        → AreAll st xs sign (filters_at b written scene m x u sign (length xs)) (meets now env m x id)
    filters-mean no_filters scope env scene xs h m e id u it sign = refl
    filters-mean (filter_and f op x filters) scope env scene xs h m e id u it sign =
        let v : Value = value_of now env x in (
          passes op (field_at now m id f) v,
          meets now env m filters id,
          refl,
          pass xs op e.0.0 e.0.1 e.0.3 (field_at now m id f) (field_cases b written m f u) (shows.fields m f e.0.0 e.0.2 xs (Id id) u it) (shows.types m f e.0.0 e.0.2 u)
              v (cases_of b written scene x) (means x scope env scene xs h e.0.1 e.0.4)
              (typed b s written shows.types x scope scene (stands-typed b st d xs scope env scene h) e.0.1 e.0.4) sign,
          filters-mean filters scope env scene xs h m e.1 id u it sign,
        )

  -- a policy on records of the model
  pub allowed-means : (m : ℕ) (p : Policy) → IsPolicy s m p → (xs : List ℕ) (id : ℕ) (r : Term) → IsTermOf b st d xs (base.Id m) (Id id) r
      → (q : Principal) (a : Who) → IsWho b st d xs q a → (sign : Bool)
      → formula.truth st xs (is_allowed b written p r a sign (length xs)) ≡ same_truth sign (allows now p id q)
  allowed-means m to_all e xs id r it q a is sign = constant-truth st xs sign ∙ same-sign sign
  allowed-means m to_none e xs id r it q a is sign = constant-truth st xs (not sign) ∙ same-unsign sign
  allowed-means m (by_record name set) e xs id r it q a is sign =
      in-means set (Plain (base.Id m) ∷ []) (Id id ∷ []) (at_term r ∷ []) xs ((base.Id m, refl, refl, it), (base.Id m, refl, refl), tt) principals e q a is sign
