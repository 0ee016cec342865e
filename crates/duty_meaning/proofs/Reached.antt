-- The formula of a use is true at a record where the use reads its field of it.
use Rattle.std.proofs.Common.{◌≡◌, ℕ, zero, suc, ◌-◌, ◌<◌, ◌≤◌, ◌⊎◌, Bool, true, false, not, ◌&&◌, ◌||◌, List, [], ◌∷◌, ◌++◌, length, refl, ap, sym, ◌∙◌, subst, arith, inl, inr}
use Rattle.std.specs.Prelude.{Some, map, ◌==◌, slice_get, if◌then◌else◌}
use Rattle.std.specs.List.{list_any, flat_map}
use Rattle.std.proofs.lemmas.Bool.{eqb-true, eq-eqb, false_from_ne_true, lt-ltb, le-ltb}
use Rattle.std.proofs.lemmas.List.{append_assoc}
use Rattle.std.proofs.lemmas.List.Folds.{list_any-append}
use Rattle.text_tree.specs.declared.exprs.CmpOp.{CmpOp}
use Rattle.text_tree.specs.declared.exprs.CmpOp.TheVariants.{Eq, Ne, Lt, Le, Gt, Ge}
use Rattle.type_schema.specs.declared.types.TBase.{TBase}
use Rattle.type_schema.specs.declared.types.TBase.TheVariants as base
use Rattle.type_schema.specs.declared.types.TTy.{TTy}
use Rattle.type_schema.specs.declared.types.TTy.TheVariants.{Plain, Set, Opt}
use Rattle.type_schema.specs.Trees.{Expr, flag, num, str, var, nothing, just, get, equal, iff, less, within, negation, both, either, if_expr, match_expr, SetExpr, everyone, nobody, listed, union, minus, find, path, mapped, flat_mapped, if_set, match_set, Items, no_items, static_item, record_item, Filters, no_filters, filter_and, Init, plain, of_set}
use Rattle.type_schema.specs.Schema.{Schema}
use Rattle.type_schema.specs.Typing.{HasModel, Scope, Content, records, IsExpr, IsSet, AreItems, AreFilters, IsInit}
use Rattle.type_schema.specs.Uses.{Use, in_order_of_text, uses_of, set_uses_of, item_uses_of, filter_uses_of, init_uses_of}
use Rattle.data_meaning.specs.declared.principals.Principal.TheVariants.{Rec}
use Rattle.data_meaning.specs.Values.{Value, Id}
use Rattle.data_meaning.specs.Database.{Database, ids_of}
use Rattle.data_meaning.specs.declared.cells.Cell.{Cell}
use Rattle.data_meaning.specs.Meaning.{Env, truth_of, id_of, taken_apart, value_of, member}
use Rattle.data_meaning.proofs.Agreement.{ap2}
use Rattle.form_formula.specs.declared.structure.Structure.{Structure}
use Rattle.form_formula.specs.Trees.{Term, Formula, bound}
use Rattle.form_formula.specs.Trees as tree
use Rattle.form_formula.specs.Truth as formula
use Rattle.duty_meaning.specs.Structures.{sort_of}
use Rattle.duty_meaning.specs.Cases.{Cases, at_term, held, truth, among, none, some, choice, at_ends, at_terms, condition_of}
use Rattle.duty_meaning.specs.Formulas.{record_at, Scene, Written, cases_of, is_in}
use Rattle.duty_meaning.specs.Reach.{in_parts, sides, end_is_none, end_is_some, reach, set_reach, items_reach, filters_reach, init_reach}
use Rattle.duty_meaning.specs.Reads.{read_by, set_read_by, items_read_by, filters_read_by, init_read_by}
use Rattle.duty_meaning.proofs.Signed.{or-false, exists-truth}
use Rattle.duty_meaning.proofs.Means.{prefix-itself, prefix-more, HasType, option-type, IsTermOf, Means, Stands, stands-typed, stands-more, stands-and, term-more}
use Rattle.duty_meaning.proofs.Ends.{IsEnd, ends-true, terms-true, entries-equal}
use Rattle.duty_meaning.proofs.Meanings.{Shows, typed, means, in-means, next-is, longer, holds, own-there}

-- whether the cell is of the field of the use, at the record with this id
abbrev pub is_at : Use → ℕ → Cell → Bool
is_at used id cell = (used.model == cell.model) && ((used.field == cell.field) && (id == cell.id))

eq-swap : (a b : ℕ) → (a == b) ≡ (b == a)
eq-swap a b =
    elim (a == b) as (λ (t : Bool). (a == b) ≡ t → t ≡ (b == a)) [
      | true ↦ λ h. sym (eq-eqb b a (sym (eqb-true a b h)))
      | false ↦ λ h. sym (false_from_ne_true (b == a) (λ e. let never : true ≡ false = sym (eq-eqb a b (sym (eqb-true b a e))) ∙ h in cc))
    ] refl

-- ---- parts

pub get-parts : (us vs : List Use) (n : ℕ) (x : Use) → slice_get (us ++ vs) n ≡ Some x
    → ((n < length us) × (slice_get us n ≡ Some x)) ⊎ ((length us ≤ n) × (slice_get vs (n - length us) ≡ Some x))
get-parts [] vs n x h = let same : n - 0 ≡ n = omega arith in inr (omega arith, ap (slice_get vs) same ∙ h)
get-parts (u ∷ us) vs zero x h = inl (omega arith, h)
get-parts (u ∷ us) vs (suc n) x h =
    let less : suc n - suc (length us) ≡ n - length us = omega arith in
    elim (get-parts us vs n x h) [
      | inl one ↦ inl (omega (arith, one.0), one.1)
      | inr one ↦ inr (omega (arith, one.0), ap (slice_get vs) less ∙ one.1)
    ]

module _ (st : Structure) (xs : List ℕ) (used : Use) (id : ℕ) where
  -- the formula is true where one of the cells is at the record
  abbrev pub Tells : Formula → List Cell → Type 0
  Tells f cells = formula.truth st xs f ≡ list_any (is_at used id) cells

  tell-parts : (us vs : List Use) (n : ℕ) (x : Use) → slice_get (us ++ vs) n ≡ Some x → (F G : ℕ → Formula) (f g : ℕ → List Cell)
      → ((n : ℕ) → slice_get us n ≡ Some x → Tells (F n) (f n)) → ((n : ℕ) → slice_get vs n ≡ Some x → Tells (G n) (g n))
      → Tells (in_parts (length us) F G n) (in_parts (length us) f g n)
  tell-parts us vs n x h F G f g left right =
      elim (get-parts us vs n x h) [
        | inl one ↦
            subst (λ (t : Bool). Tells (if t then F n else G (n - length us)) (if t then f n else g (n - length us))) (sym (lt-ltb n (length us) one.0)) (left n one.1)
        | inr one ↦
            subst (λ (t : Bool). Tells (if t then F n else G (n - length us)) (if t then f n else g (n - length us))) (sym (le-ltb n (length us) one.0)) (right (n - length us) one.1)
      ]

  tell-sides : (op : CmpOp) (us vs : List Use) (n : ℕ) (x : Use) → slice_get (in_order_of_text op us vs) n ≡ Some x → (F G : ℕ → Formula) (f g : ℕ → List Cell)
      → ((n : ℕ) → slice_get us n ≡ Some x → Tells (F n) (f n)) → ((n : ℕ) → slice_get vs n ≡ Some x → Tells (G n) (g n))
      → Tells (sides op (length us) (length vs) F G n) (sides op (length us) (length vs) f g n)
  tell-sides Eq us vs n x h F G f g left right = tell-parts us vs n x h F G f g left right
  tell-sides Ne us vs n x h F G f g left right = tell-parts us vs n x h F G f g left right
  tell-sides Lt us vs n x h F G f g left right = tell-parts us vs n x h F G f g left right
  tell-sides Le us vs n x h F G f g left right = tell-parts vs us n x h G F g f right left
  tell-sides Gt us vs n x h F G f g left right = tell-parts vs us n x h G F g f right left
  tell-sides Ge us vs n x h F G f g left right = tell-parts us vs n x h F G f g left right

  tell-if : (c a : Formula) (x : Bool) (cells : List Cell) → formula.truth st xs c ≡ x → Tells a cells → Tells (tree.both c a) (if x then cells else [])
  tell-if c a true cells h k = ap2 (λ s t. s && t) h k
  tell-if c a false cells h k = ap (λ s. s && formula.truth st xs a) h

  tell-unless : (c a : Formula) (x : Bool) (cells : List Cell) → formula.truth st xs c ≡ not x → Tells a cells → Tells (tree.both c a) (if x then [] else cells)
  tell-unless c a true cells h k = ap (λ s. s && formula.truth st xs a) h
  tell-unless c a false cells h k = ap2 (λ s t. s && t) h k

any-if : (T : Cell → Bool) (x : Bool) (cells : List Cell) → list_any T (if x then cells else []) ≡ (x && list_any T cells)
any-if T true cells = refl
any-if T false cells = refl

any-each : (T : Cell → Bool) (G : ℕ → List Cell) (ids : List ℕ) → list_any T (flat_map G ids) ≡ list_any (λ y. list_any T (G y)) ids
any-each T G [] = refl
any-each T G (y ∷ ids) = list_any-append T (G y) (flat_map G ids) ∙ ap (λ t. list_any T (G y) || t) (any-each T G ids)

any-same : (P Q : ℕ → Bool) (ids : List ℕ) → ((y : ℕ) → P y ≡ Q y) → list_any P ids ≡ list_any Q ids
any-same P Q [] h = refl
any-same P Q (y ∷ ids) h = ap2 (λ a b. a || b) (h y) (any-same P Q ids h)

own-cell : (used : Use) (m f : ℕ) (x : Bool) → used.model ≡ m → used.field ≡ f → ((used.model == m) && ((used.field == f) && x)) ≡ x
own-cell used m f x p q = ap2 (λ s t. s && (t && x)) (eq-eqb used.model m p) (eq-eqb used.field f q)

-- a filter's field is read at each record
at-each : (used : Use) (m f id : ℕ) → used.model ≡ m → used.field ≡ f → (ids : List ℕ)
    → list_any (λ i. i == id) ids ≡ list_any (is_at used id) (map (λ i. record { model = m; id = i; field = f }) ids)
at-each used m f id p q [] = refl
at-each used m f id p q (i ∷ ids) = ap2 (λ a b. a || b) (eq-swap i id ∙ sym (own-cell used m f (id == i) p q)) (at-each used m f id p q ids)

-- ---- the branches of a match

module _ (b : Schema) (st : Structure) (d : Database) (xs : List ℕ) (used : Use) (id : ℕ) where
  none-end : (p : TBase) (v : Value) (a : Formula) (cells : List Cell) → Tells st xs used id a cells
      → (e : Cases) → IsEnd e → Means b st d xs (Opt p) v e → Tells st xs used id (end_is_none b a e) (taken_apart v cells (λ w. []))
  none-end p v a cells k (at_term u) end h = let never = h.1 in cc
  none-end p v a cells k (held m f u) end h =
      elim h [
        | inl is ↦
            subst (λ (x : Value). Tells st xs used id (end_is_none b a (held m f u)) (taken_apart x cells (λ w. []))) (sym is.0)
            (ap2 (λ s t. s && t) (is.1 xs (prefix-itself xs) false) k)
        | inr is ↦
            subst (λ (x : Value). Tells st xs used id (end_is_none b a (held m f u)) (taken_apart x cells (λ w. []))) (sym is.1)
            (ap (λ s. s && formula.truth st xs a) (is.2 xs (prefix-itself xs) false))
      ]
  none-end p v a cells k (truth c) end h = let never = h.0 in cc
  none-end p v a cells k (among c) end h = let never = h.1 in cc
  none-end p v a cells k none end h = subst (λ (x : Value). Tells st xs used id a (taken_apart x cells (λ w. []))) (sym h.2) k
  none-end p v a cells k (some c) end h = subst (λ (x : Value). Tells st xs used id tree.no (taken_apart x cells (λ w. []))) (sym h.2.1) refl
  none-end p v a cells k (choice c x y) end h = absurd end

  some-end : (p : TBase) (v : Value) (K : Cases → Formula) (cells : Value → List Cell)
      → ((w : Value) (c : Cases) → Means b st d xs (Plain p) w c → HasType b (Plain p) c → Tells st xs used id (K c) (cells w))
      → (e : Cases) → IsEnd e → Means b st d xs (Opt p) v e → HasType b (Opt p) e → Tells st xs used id (end_is_some b K e) (taken_apart v [] cells)
  some-end p v K cells k (at_term u) end h y = let never = h.1 in cc
  some-end p v K cells k (held m f u) end h y =
      elim h [
        | inl is ↦
            subst (λ (x : Value). Tells st xs used id (end_is_some b K (held m f u)) (taken_apart x [] cells)) (sym is.0)
            (ap (λ s. s && formula.truth st xs (K (held m f u))) (is.1 xs (prefix-itself xs) true))
        | inr is ↦
            subst (λ (x : Value). Tells st xs used id (end_is_some b K (held m f u)) (taken_apart x [] cells)) (sym is.1)
            (ap2 (λ s t. s && t) (is.2 xs (prefix-itself xs) true) (k is.0 (held m f u) is.3 (y ∙ option-type b p)))
      ]
  some-end p v K cells k (truth c) end h y = let never = h.0 in cc
  some-end p v K cells k (among c) end h y = let never = h.1 in cc
  some-end p v K cells k none end h y = subst (λ (x : Value). Tells st xs used id tree.no (taken_apart x [] cells)) (sym h.2) refl
  some-end p v K cells k (some c) end h y =
      let one : h.0 ≡ p = let e = h.1 in cc in
      let two : y.0 ≡ p = let e = y.1 in cc in
      subst (λ (x : Value). Tells st xs used id (K c) (taken_apart x [] cells)) (sym h.2.1)
      (k h.2.0 c (subst (λ (i : TBase). Means b st d xs (Plain i) h.2.0 c) one h.2.2) (subst (λ (i : TBase). HasType b (Plain i) c) two y.2))
  some-end p v K cells k (choice c x z) end h y = absurd end

-- ---- the law

module _ (b s : Schema) (written : Written) (st : Structure) (d now : Database) (shows : Shows b s written st d now) (used : Use) (id : ℕ) (y : Term) where
  -- the term is the record with the id
  abbrev IsRead : List ℕ → Type 0
  IsRead xs = IsTermOf b st d xs (base.Id used.model) (Id id) y

  -- three parts
  three : (us vs ws : List Use) (n : ℕ) → slice_get (us ++ vs ++ ws) n ≡ Some used → slice_get (us ++ (vs ++ ws)) n ≡ Some used
  three us vs ws n h = ap (λ l. slice_get l n) (sym (append_assoc us vs ws)) ∙ h

  -- an access reads at the record that it accesses
  access : (m f : ℕ) (x : Expr) (scope : Scope) (env : Env) (scene : Scene) (xs : List ℕ) → Stands b st d xs scope env scene → IsRead xs
      → IsExpr s scope (Plain (base.Id m)) x → (n : ℕ) → slice_get ((record { model = m; field = f }) ∷ []) n ≡ Some used
      → Tells st xs used id (at_terms b (length xs) (λ t. tree.equal y t) (cases_of b written scene x)) ((record { model = m; id = id_of (value_of now env x); field = f }) ∷ [])
  access m f x scope env scene xs h i e (suc n) u = cc
  access m f x scope env scene xs h i e zero u =
      let own : Use = record { model = m; field = f } in
      let same : own ≡ used = cc in
      let it : IsTermOf b st d xs (base.Id m) (Id id) y = subst (λ (z : Use). IsTermOf b st d xs (base.Id z.model) (Id id) y) (sym same) i in
      let v : Value = value_of now env x in
      terms-true b st d xs (base.Id m) v (λ t. tree.equal y t) (list_any (is_at used id) ((record { model = m; id = id_of v; field = f }) ∷ [])) refl
      (λ t at. entries-equal b st d (base.Id m) (Id id) v (formula.value_of st xs y) (formula.value_of st xs t) refl (it xs (prefix-itself xs)) (at xs (prefix-itself xs))
      ∙ sym (own-cell used m f (id == id_of v) (ap (λ (z : Use). z.model) (sym same)) (ap (λ (z : Use). z.field) (sym same)))
      ∙ sym (or-false (is_at used id (record { model = m; id = id_of v; field = f }))))
      (cases_of b written scene x) (means b s written st d now shows x scope env scene xs h (Plain (base.Id m)) e)
      (typed b s written shows.types x scope scene (stands-typed b st d xs scope env scene h) (Plain (base.Id m)) e)

  -- and a filter at each record of its model
  filter-use : (m f : ℕ) (xs : List ℕ) → IsRead xs → HasModel s m → (n : ℕ) → slice_get ((record { model = m; field = f }) ∷ []) n ≡ Some used
      → Tells st xs used id tree.yes (map (λ id. record { model = m; id = id; field = f }) (ids_of now m))
  filter-use m f xs i model (suc n) u = cc
  filter-use m f xs i model zero u =
      let own : Use = record { model = m; field = f } in
      let same : own ≡ used = cc in
      let it : IsTermOf b st d xs (base.Id m) (Id id) y = subst (λ (z : Use). IsTermOf b st d xs (base.Id z.model) (Id id) y) (sym same) i in
      sym (sym (at-each used m f id (ap (λ (z : Use). z.model) (sym same)) (ap (λ (z : Use). z.field) (sym same)) (ids_of now m))
      ∙ ap (list_any (λ j. j == id)) (shows.ids m model) ∙ own-there b s written st d now shows m xs id y it)

  -- the body of `map` and of `flat_map`
  through : (k : ℕ) (set : SetExpr) (body : Formula) (cells : ℕ → List Cell) (scene : Scene) (scope : Scope) (env : Env) (xs : List ℕ) → Stands b st d xs scope env scene
      → HasModel s k → IsSet s scope (records k) set
      → ((z other : ℕ) → slice_get (ids_of d k) z ≡ Some other → IsTermOf b st d (xs ++ z ∷ []) (base.Id k) (Id other) (bound (sort_of b k) (length xs))
      → Stands b st d (xs ++ z ∷ []) (scope ++ Plain (base.Id k) ∷ []) (env ++ Id other ∷ []) (scene ++ at_term (bound (sort_of b k) (length xs)) ∷ [])
      → formula.truth st (xs ++ z ∷ []) body ≡ list_any (is_at used id) (cells other))
      → Tells st xs used id (tree.exists (sort_of b k) (tree.both (is_in b written scene set (record_at k (bound (sort_of b k) (length xs))) true (suc (length xs))) body))
      (flat_map (λ z. if member now env set (Rec k z) then cells z else []) (ids_of now k))
  through k set body cells scene scope env xs h model e each =
      let v : Term = bound (sort_of b k) (length xs) in
      let source : Formula = is_in b written scene set (record_at k v) true (suc (length xs)) in
      let P : ℕ → Bool = λ z. member now env set (Rec k z) && list_any (is_at used id) (cells z) in
      let G : ℕ → List Cell = λ z. if member now env set (Rec k z) then cells z else [] in
      exists-truth st xs true (sort_of b k) (tree.both source body) (ids_of d k) P (shows.sizes k model)
      (λ z other got.
      let zs : List ℕ = xs ++ z ∷ [] in
      let it = next-is b s written st d now shows k model xs z other got in
      let more = stands-more b st d xs zs scope env scene (prefix-more xs z) h in
      let inner = stands-and b st d zs scope env scene (Plain (base.Id k)) (Id other) (at_term v) more (base.Id k, refl, refl, it) (base.Id k, refl, refl) in
      ap2 (λ s t. s && t)
      (ap (λ j. formula.truth st zs (is_in b written scene set (record_at k v) true j)) (longer b s written st d now shows xs z)
      ∙ in-means b s written st d now shows set scope env scene zs more (records k) e (Rec k other) (record_at k v) (refl, it) true)
      (each z other got it inner))
      ∙ ap (list_any P) (sym (shows.ids k model))
      ∙ any-same P (λ z. list_any (is_at used id) (G z)) (ids_of now k) (λ z. sym (any-if (is_at used id) (member now env set (Rec k z)) (cells z)))
      ∙ sym (any-each (is_at used id) G (ids_of now k))

  mutual
    reached : (x : Expr) (scope : Scope) (env : Env) (scene : Scene) (xs : List ℕ) → Stands b st d xs scope env scene → IsRead xs → (t : TTy) → IsExpr s scope t x
        → (n : ℕ) → slice_get (uses_of x) n ≡ Some used → Tells st xs used id (reach b written y scene x n (length xs)) (read_by now env x n)
    reached (flag z) scope env scene xs h i t e n u = cc
    reached (num k) scope env scene xs h i t e n u = cc
    reached (str bytes) scope env scene xs h i t e n u = cc
    reached (var depth name) scope env scene xs h i t e n u = cc
    reached nothing scope env scene xs h i t e n u = cc
    reached (just x) scope env scene xs h i t e n u = reached x scope env scene xs h i (Plain e.0) e.2 n u
    reached (get x m f) scope env scene xs h i t e n u =
        tell-parts st xs used id (uses_of x) ((record { model = m; field = f }) ∷ []) n used u
        (λ n. reach b written y scene x n (length xs)) (λ n. at_terms b (length xs) (λ t. tree.equal y t) (cases_of b written scene x))
        (λ n. read_by now env x n) (λ n. (record { model = m; id = id_of (value_of now env x); field = f }) ∷ [])
        (λ n v. reached x scope env scene xs h i (Plain (base.Id m)) e.1 n v)
        (λ n v. access m f x scope env scene xs h i e.1 n v)
    reached (equal x z op) scope env scene xs h i t e n u =
        tell-parts st xs used id (uses_of x) (uses_of z) n used u
        (λ n. reach b written y scene x n (length xs)) (λ n. reach b written y scene z n (length xs)) (λ n. read_by now env x n) (λ n. read_by now env z n)
        (λ n v. reached x scope env scene xs h i (Plain e.1.0) e.1.2 n v) (λ n v. reached z scope env scene xs h i (Plain e.1.0) e.1.3 n v)
    reached (iff x z op) scope env scene xs h i t e n u =
        tell-parts st xs used id (uses_of x) (uses_of z) n used u
        (λ n. reach b written y scene x n (length xs)) (λ n. reach b written y scene z n (length xs)) (λ n. read_by now env x n) (λ n. read_by now env z n)
        (λ n v. reached x scope env scene xs h i (Plain base.Bool) e.1 n v) (λ n v. reached z scope env scene xs h i (Plain base.Bool) e.2 n v)
    reached (less x z op) scope env scene xs h i t e n u =
        tell-sides st xs used id op (uses_of x) (uses_of z) n used u
        (λ n. reach b written y scene x n (length xs)) (λ n. reach b written y scene z n (length xs)) (λ n. read_by now env x n) (λ n. read_by now env z n)
        (λ n v. reached x scope env scene xs h i (Plain base.Int) e.1 n v) (λ n v. reached z scope env scene xs h i (Plain base.Int) e.2 n v)
    reached (within x m set) scope env scene xs h i t e n u =
        tell-parts st xs used id (uses_of x) (set_uses_of set) n used u
        (λ n. reach b written y scene x n (length xs)) (λ n. set_reach b written y scene set n (length xs)) (λ n. read_by now env x n) (λ n. set_read_by now env set n)
        (λ n v. reached x scope env scene xs h i (Plain (base.Id m)) e.1 n v) (λ n v. set-reached set scope env scene xs h i (records m) e.2 n v)
    reached (negation x) scope env scene xs h i t e n u = reached x scope env scene xs h i (Plain base.Bool) e.1 n u
    reached (both x z) scope env scene xs h i t e n u =
        tell-parts st xs used id (uses_of x) (uses_of z) n used u
        (λ n. reach b written y scene x n (length xs)) (λ n. reach b written y scene z n (length xs)) (λ n. read_by now env x n) (λ n. read_by now env z n)
        (λ n v. reached x scope env scene xs h i (Plain base.Bool) e.1 n v) (λ n v. reached z scope env scene xs h i (Plain base.Bool) e.2 n v)
    reached (either x z) scope env scene xs h i t e n u =
        tell-parts st xs used id (uses_of x) (uses_of z) n used u
        (λ n. reach b written y scene x n (length xs)) (λ n. reach b written y scene z n (length xs)) (λ n. read_by now env x n) (λ n. read_by now env z n)
        (λ n v. reached x scope env scene xs h i (Plain base.Bool) e.1 n v) (λ n v. reached z scope env scene xs h i (Plain base.Bool) e.2 n v)
    reached (if_expr c x z) scope env scene xs h i t e n u =
        let C = condition_of b (cases_of b written scene c) in
        let taken : Bool = truth_of (value_of now env c) in
        let test = holds b s written st d now shows c scope env scene xs h e.0 (means b s written st d now shows c scope env scene xs h (Plain base.Bool) e.0) xs (prefix-itself xs) in
        let F : ℕ → Formula = λ n. tree.both (C true (length xs)) (reach b written y scene x n (length xs)) in
        let G : ℕ → Formula = λ n. tree.both (C false (length xs)) (reach b written y scene z n (length xs)) in
        let f : ℕ → List Cell = λ n. if taken then read_by now env x n else [] in
        let g : ℕ → List Cell = λ n. if taken then [] else read_by now env z n in
        tell-parts st xs used id (uses_of c) (uses_of x ++ uses_of z) n used (three (uses_of c) (uses_of x) (uses_of z) n u)
        (λ n. reach b written y scene c n (length xs)) (in_parts (length (uses_of x)) F G) (λ n. read_by now env c n) (in_parts (length (uses_of x)) f g)
        (λ n v. reached c scope env scene xs h i (Plain base.Bool) e.0 n v)
        (λ n v. tell-parts st xs used id (uses_of x) (uses_of z) n used v F G f g
        (λ n v. tell-if st xs used id (C true (length xs)) (reach b written y scene x n (length xs)) taken (read_by now env x n) (test true) (reached x scope env scene xs h i t e.1 n v))
        (λ n v. tell-unless st xs used id (C false (length xs)) (reach b written y scene z n (length xs)) taken (read_by now env z n) (test false) (reached z scope env scene xs h i t e.2 n v)))
    reached (match_expr x z name c) scope env scene xs h i t e n u =
        let F : ℕ → Formula = λ n. at_ends (length xs) (end_is_none b (reach b written y scene z n (length xs))) (cases_of b written scene x) in
        let G : ℕ → Formula = λ n. at_ends (length xs) (end_is_some b (λ v. reach b written y (scene ++ v ∷ []) c n (length xs))) (cases_of b written scene x) in
        let f : ℕ → List Cell = λ n. taken_apart (value_of now env x) (read_by now env z n) (λ w. []) in
        let g : ℕ → List Cell = λ n. taken_apart (value_of now env x) [] (λ w. read_by now (env ++ w ∷ []) c n) in
        let one = means b s written st d now shows x scope env scene xs h (Opt e.0) e.1 in
        let ty = typed b s written shows.types x scope scene (stands-typed b st d xs scope env scene h) (Opt e.0) e.1 in
        tell-parts st xs used id (uses_of x) (uses_of z ++ uses_of c) n used (three (uses_of x) (uses_of z) (uses_of c) n u)
        (λ n. reach b written y scene x n (length xs)) (in_parts (length (uses_of z)) F G) (λ n. read_by now env x n) (in_parts (length (uses_of z)) f g)
        (λ n v. reached x scope env scene xs h i (Opt e.0) e.1 n v)
        (λ n v. tell-parts st xs used id (uses_of z) (uses_of c) n used v F G f g
        (λ n v. ends-true b st d xs (Opt e.0) (value_of now env x) (end_is_none b (reach b written y scene z n (length xs)))
        (list_any (is_at used id) (taken_apart (value_of now env x) (read_by now env z n) (λ w. [])))
        (λ end at k l. none-end b st d xs used id e.0 (value_of now env x) (reach b written y scene z n (length xs)) (read_by now env z n) (reached z scope env scene xs h i t e.2 n v) end at k)
        (cases_of b written scene x) one ty)
        (λ n v. ends-true b st d xs (Opt e.0) (value_of now env x) (end_is_some b (λ v. reach b written y (scene ++ v ∷ []) c n (length xs)))
        (list_any (is_at used id) (taken_apart (value_of now env x) [] (λ w. read_by now (env ++ w ∷ []) c n)))
        (λ end at k l. some-end b st d xs used id e.0 (value_of now env x) (λ v. reach b written y (scene ++ v ∷ []) c n (length xs)) (λ w. read_by now (env ++ w ∷ []) c n)
        (λ w a k l. reached c (scope ++ Plain e.0 ∷ []) (env ++ w ∷ []) (scene ++ a ∷ []) xs (stands-and b st d xs scope env scene (Plain e.0) w a h k l) i t e.3 n v)
        end at k l)
        (cases_of b written scene x) one ty))

    set-reached : (x : SetExpr) (scope : Scope) (env : Env) (scene : Scene) (xs : List ℕ) → Stands b st d xs scope env scene → IsRead xs → (w : Content) → IsSet s scope w x
        → (n : ℕ) → slice_get (set_uses_of x) n ≡ Some used → Tells st xs used id (set_reach b written y scene x n (length xs)) (set_read_by now env x n)
    set-reached everyone scope env scene xs h i w e n u = cc
    set-reached nobody scope env scene xs h i w e n u = cc
    set-reached (listed items) scope env scene xs h i w e n u = items-reached items scope env scene xs h i w e n u
    set-reached (union x z) scope env scene xs h i w e n u =
        tell-parts st xs used id (set_uses_of x) (set_uses_of z) n used u
        (λ n. set_reach b written y scene x n (length xs)) (λ n. set_reach b written y scene z n (length xs)) (λ n. set_read_by now env x n) (λ n. set_read_by now env z n)
        (λ n v. set-reached x scope env scene xs h i w e.0 n v) (λ n v. set-reached z scope env scene xs h i w e.1 n v)
    set-reached (minus x z) scope env scene xs h i w e n u =
        tell-parts st xs used id (set_uses_of x) (set_uses_of z) n used u
        (λ n. set_reach b written y scene x n (length xs)) (λ n. set_reach b written y scene z n (length xs)) (λ n. set_read_by now env x n) (λ n. set_read_by now env z n)
        (λ n v. set-reached x scope env scene xs h i w e.0 n v) (λ n v. set-reached z scope env scene xs h i w e.1 n v)
    set-reached (find m filters) scope env scene xs h i w e n u = filters-reached filters scope env scene xs h i m e.1 e.2 n u
    set-reached (path m x) scope env scene xs h i w e n u = reached x scope env scene xs h i (Set m) e.1 n u
    set-reached (mapped set k name m x) scope env scene xs h i w e n u =
        let v : Term = bound (sort_of b k) (length xs) in
        let source : Formula = is_in b written scene set (record_at k v) true (suc (length xs)) in
        let body : ℕ → Formula = λ n. reach b written y (scene ++ at_term v ∷ []) x n (suc (length xs)) in
        let cells : ℕ → ℕ → List Cell = λ n z. read_by now (env ++ Id z ∷ []) x n in
        tell-parts st xs used id (set_uses_of set) (uses_of x) n used u
        (λ n. set_reach b written y scene set n (length xs)) (λ n. tree.exists (sort_of b k) (tree.both source (body n)))
        (λ n. set_read_by now env set n) (λ n. flat_map (λ z. if member now env set (Rec k z) then cells n z else []) (ids_of now k))
        (λ n v. set-reached set scope env scene xs h i (records k) e.2 n v)
        (λ n uses. through k set (body n) (cells n) scene scope env xs h e.1 e.2
        (λ z other got it inner. ap (λ j. formula.truth st (xs ++ z ∷ []) (reach b written y (scene ++ at_term v ∷ []) x n j)) (longer b s written st d now shows xs z)
        ∙ reached x (scope ++ Plain (base.Id k) ∷ []) (env ++ Id other ∷ []) (scene ++ at_term v ∷ []) (xs ++ z ∷ []) inner
        (term-more b st d xs (xs ++ z ∷ []) (base.Id used.model) (Id id) y (prefix-more xs z) i) (Plain (base.Id m)) e.3 n uses))
    set-reached (flat_mapped set k name c) scope env scene xs h i w e n u =
        let v : Term = bound (sort_of b k) (length xs) in
        let source : Formula = is_in b written scene set (record_at k v) true (suc (length xs)) in
        let body : ℕ → Formula = λ n. set_reach b written y (scene ++ at_term v ∷ []) c n (suc (length xs)) in
        let cells : ℕ → ℕ → List Cell = λ n z. set_read_by now (env ++ Id z ∷ []) c n in
        tell-parts st xs used id (set_uses_of set) (set_uses_of c) n used u
        (λ n. set_reach b written y scene set n (length xs)) (λ n. tree.exists (sort_of b k) (tree.both source (body n)))
        (λ n. set_read_by now env set n) (λ n. flat_map (λ z. if member now env set (Rec k z) then cells n z else []) (ids_of now k))
        (λ n v. set-reached set scope env scene xs h i (records k) e.1 n v)
        (λ n uses. through k set (body n) (cells n) scene scope env xs h e.0 e.1
        (λ z other got it inner. ap (λ j. formula.truth st (xs ++ z ∷ []) (set_reach b written y (scene ++ at_term v ∷ []) c n j)) (longer b s written st d now shows xs z)
        ∙ set-reached c (scope ++ Plain (base.Id k) ∷ []) (env ++ Id other ∷ []) (scene ++ at_term v ∷ []) (xs ++ z ∷ []) inner
        (term-more b st d xs (xs ++ z ∷ []) (base.Id used.model) (Id id) y (prefix-more xs z) i) w e.2 n uses))
    set-reached (if_set c x z) scope env scene xs h i w e n u =
        let C = condition_of b (cases_of b written scene c) in
        let taken : Bool = truth_of (value_of now env c) in
        let test = holds b s written st d now shows c scope env scene xs h e.0 (means b s written st d now shows c scope env scene xs h (Plain base.Bool) e.0) xs (prefix-itself xs) in
        let F : ℕ → Formula = λ n. tree.both (C true (length xs)) (set_reach b written y scene x n (length xs)) in
        let G : ℕ → Formula = λ n. tree.both (C false (length xs)) (set_reach b written y scene z n (length xs)) in
        let f : ℕ → List Cell = λ n. if taken then set_read_by now env x n else [] in
        let g : ℕ → List Cell = λ n. if taken then [] else set_read_by now env z n in
        tell-parts st xs used id (uses_of c) (set_uses_of x ++ set_uses_of z) n used (three (uses_of c) (set_uses_of x) (set_uses_of z) n u)
        (λ n. reach b written y scene c n (length xs)) (in_parts (length (set_uses_of x)) F G) (λ n. read_by now env c n) (in_parts (length (set_uses_of x)) f g)
        (λ n v. reached c scope env scene xs h i (Plain base.Bool) e.0 n v)
        (λ n v. tell-parts st xs used id (set_uses_of x) (set_uses_of z) n used v F G f g
        (λ n v. tell-if st xs used id (C true (length xs)) (set_reach b written y scene x n (length xs)) taken (set_read_by now env x n) (test true) (set-reached x scope env scene xs h i w e.1 n v))
        (λ n v. tell-unless st xs used id (C false (length xs)) (set_reach b written y scene z n (length xs)) taken (set_read_by now env z n) (test false) (set-reached z scope env scene xs h i w e.2 n v)))
    set-reached (match_set x z name c) scope env scene xs h i w e n u =
        let F : ℕ → Formula = λ n. at_ends (length xs) (end_is_none b (set_reach b written y scene z n (length xs))) (cases_of b written scene x) in
        let G : ℕ → Formula = λ n. at_ends (length xs) (end_is_some b (λ v. set_reach b written y (scene ++ v ∷ []) c n (length xs))) (cases_of b written scene x) in
        let f : ℕ → List Cell = λ n. taken_apart (value_of now env x) (set_read_by now env z n) (λ w. []) in
        let g : ℕ → List Cell = λ n. taken_apart (value_of now env x) [] (λ w. set_read_by now (env ++ w ∷ []) c n) in
        let one = means b s written st d now shows x scope env scene xs h (Opt e.0) e.1 in
        let ty = typed b s written shows.types x scope scene (stands-typed b st d xs scope env scene h) (Opt e.0) e.1 in
        tell-parts st xs used id (uses_of x) (set_uses_of z ++ set_uses_of c) n used (three (uses_of x) (set_uses_of z) (set_uses_of c) n u)
        (λ n. reach b written y scene x n (length xs)) (in_parts (length (set_uses_of z)) F G) (λ n. read_by now env x n) (in_parts (length (set_uses_of z)) f g)
        (λ n v. reached x scope env scene xs h i (Opt e.0) e.1 n v)
        (λ n v. tell-parts st xs used id (set_uses_of z) (set_uses_of c) n used v F G f g
        (λ n v. ends-true b st d xs (Opt e.0) (value_of now env x) (end_is_none b (set_reach b written y scene z n (length xs)))
        (list_any (is_at used id) (taken_apart (value_of now env x) (set_read_by now env z n) (λ w. [])))
        (λ end at k l. none-end b st d xs used id e.0 (value_of now env x) (set_reach b written y scene z n (length xs)) (set_read_by now env z n) (set-reached z scope env scene xs h i w e.2 n v) end at k)
        (cases_of b written scene x) one ty)
        (λ n v. ends-true b st d xs (Opt e.0) (value_of now env x) (end_is_some b (λ v. set_reach b written y (scene ++ v ∷ []) c n (length xs)))
        (list_any (is_at used id) (taken_apart (value_of now env x) [] (λ w. set_read_by now (env ++ w ∷ []) c n)))
        (λ end at k l. some-end b st d xs used id e.0 (value_of now env x) (λ v. set_reach b written y (scene ++ v ∷ []) c n (length xs)) (λ w. set_read_by now (env ++ w ∷ []) c n)
        (λ z a k l. set-reached c (scope ++ Plain e.0 ∷ []) (env ++ z ∷ []) (scene ++ a ∷ []) xs (stands-and b st d xs scope env scene (Plain e.0) z a h k l) i w e.3 n v)
        end at k l)
        (cases_of b written scene x) one ty))

    items-reached : (x : Items) (scope : Scope) (env : Env) (scene : Scene) (xs : List ℕ) → Stands b st d xs scope env scene → IsRead xs → (w : Content) → AreItems s scope w x
        → (n : ℕ) → slice_get (item_uses_of x) n ≡ Some used → Tells st xs used id (items_reach b written y scene x n (length xs)) (items_read_by now env x n)
    items-reached no_items scope env scene xs h i w e n u = cc
    items-reached (static_item k items) scope env scene xs h i w e n u = items-reached items scope env scene xs h i w e.2 n u
    items-reached (record_item m x items) scope env scene xs h i w e n u =
        tell-parts st xs used id (uses_of x) (item_uses_of items) n used u
        (λ n. reach b written y scene x n (length xs)) (λ n. items_reach b written y scene items n (length xs)) (λ n. read_by now env x n) (λ n. items_read_by now env items n)
        (λ n v. reached x scope env scene xs h i (Plain (base.Id m)) e.1 n v) (λ n v. items-reached items scope env scene xs h i w e.2 n v)

    filters-reached : (x : Filters) (scope : Scope) (env : Env) (scene : Scene) (xs : List ℕ) → Stands b st d xs scope env scene → IsRead xs → (m : ℕ) → HasModel s m → AreFilters s scope m x
        → (n : ℕ) → slice_get (filter_uses_of m x) n ≡ Some used → Tells st xs used id (filters_reach b written y scene m x n (length xs)) (filters_read_by now env m x n)
    filters-reached no_filters scope env scene xs h i m model e n u = cc
    filters-reached (filter_and f op x filters) scope env scene xs h i m model e n u =
        let own : Use = record { model = m; field = f } in
        let F : ℕ → Formula = λ n. tree.yes in
        let G : ℕ → Formula = λ n. filters_reach b written y scene m filters n (length xs) in
        let f' : ℕ → List Cell = λ n. map (λ id. record { model = m; id = id; field = f }) (ids_of now m) in
        let g : ℕ → List Cell = λ n. filters_read_by now env m filters n in
        tell-parts st xs used id (uses_of x) (own ∷ filter_uses_of m filters) n used u
        (λ n. reach b written y scene x n (length xs)) (in_parts 1 F G) (λ n. read_by now env x n) (in_parts 1 f' g)
        (λ n v. reached x scope env scene xs h i e.0.1 e.0.4 n v)
        (λ n v. tell-parts st xs used id (own ∷ []) (filter_uses_of m filters) n used v F G f' g
        (λ n v. filter-use m f xs i model n v) (λ n v. filters-reached filters scope env scene xs h i m model e.1 n v))

  pub init-reached : (m : ℕ) (ty : TTy) (init : Init) → IsInit s m ty init → (xs : List ℕ) (own : ℕ) (r : Term) → IsTermOf b st d xs (base.Id m) (Id own) r → IsRead xs
      → (n : ℕ) → slice_get (init_uses_of init) n ≡ Some used → Tells st xs used id (init_reach b written y init r n (length xs)) (init_read_by now init own n)
  init-reached m ty (plain x) is xs own r it i n u =
      reached x (Plain (base.Id m) ∷ []) (Id own ∷ []) (at_term r ∷ []) xs ((base.Id m, refl, refl, it), (base.Id m, refl, refl), tt) i ty is.1 n u
  init-reached m ty (of_set k set) is xs own r it i n u =
      set-reached set (Plain (base.Id m) ∷ []) (Id own ∷ []) (at_term r ∷ []) xs ((base.Id m, refl, refl, it), (base.Id m, refl, refl), tt) i (records k) is.1 n u
