-- What a use reads is of a record that is there.
use Rattle.std.proofs.Common.{◌≡◌, ℕ, ◌⊎◌, Bool, true, false, ◌||◌, List, [], ◌∷◌, ◌++◌, length, refl, ap, sym, ◌∙◌, subst, inl, inr}
use Rattle.std.specs.Prelude.{map, ◌==◌, slice_get, if◌then◌else◌}
use Rattle.std.specs.List.{list_any, flat_map}
use Rattle.std.specs.Option.{option_map}
use Rattle.std.proofs.lemmas.Bool.{eqb-true, eq-eqb}
use Rattle.std.proofs.lemmas.List.Folds.{list_any-append}
use Rattle.type_schema.specs.declared.types.TBase.{TBase}
use Rattle.type_schema.specs.declared.types.TBase.TheVariants as base
use Rattle.type_schema.specs.declared.types.TTy.{TTy}
use Rattle.type_schema.specs.declared.types.TTy.TheVariants.{Plain, Set, Opt}
use Rattle.type_schema.specs.Trees.{Expr, flag, num, str, var, nothing, just, get, equal, iff, less, within, negation, both, either, if_expr, match_expr, SetExpr, everyone, nobody, listed, union, minus, find, path, mapped, flat_mapped, if_set, match_set, Items, no_items, static_item, record_item, Filters, no_filters, filter_and, Init, plain, of_set}
use Rattle.type_schema.specs.Schema.{Schema}
use Rattle.type_schema.specs.Typing.{HasModel, Scope, Content, records, IsExpr, IsSet, AreItems, AreFilters, IsInit}
use Rattle.type_schema.specs.Uses.{Use, uses_of, set_uses_of}
use Rattle.data_meaning.specs.declared.principals.Principal.TheVariants.{Rec}
use Rattle.data_meaning.specs.Values.{Value, Flag, Num, Str, Id, Ids, Nothing, Just}
use Rattle.data_meaning.specs.Database.{Database, ids_of, has_record}
use Rattle.data_meaning.specs.declared.cells.Cell.{Cell}
use Rattle.data_meaning.specs.Meaning.{Env, truth_of, id_of, taken_apart, value_of, member}
use Rattle.data_meaning.proofs.Tests.{and-left, and-right, or-true}
use Rattle.form_formula.specs.declared.structure.SVal.TheVariants as sval
use Rattle.form_formula.specs.declared.structure.Structure.{Structure}
use Rattle.form_formula.specs.Trees.{Term, bound}
use Rattle.duty_meaning.specs.Structures.{sort_of, element_of}
use Rattle.duty_meaning.specs.Cases.{Cases, at_term, held, truth, among, none, some, choice}
use Rattle.duty_meaning.specs.Formulas.{Scene, Written, cases_of}
use Rattle.duty_meaning.specs.Reach.{in_parts}
use Rattle.duty_meaning.specs.Reads.{read_by, set_read_by, items_read_by, filters_read_by, init_read_by}
use Rattle.duty_meaning.proofs.Means.{prefix-itself, prefix-more, HasType, option-type, IsTermOf, Means, Stands, stands-typed, stands-more, stands-and}
use Rattle.duty_meaning.proofs.Meanings.{Shows, typed, means, get-next}
use Rattle.duty_meaning.proofs.ReadCells.{part, side}
use Rattle.duty_meaning.proofs.Reached.{is_at}

-- ---- values

module _ (b : Schema) (st : Structure) (d : Database) (xs : List ℕ) where
  -- the record that a value names
  record-value : (m : ℕ) (v : Value) (c : Cases) → Means b st d xs (Plain (base.Id m)) v c → has_record d m (id_of v) ≡ true
  record-value m v (at_term u) h =
      let same : h.0 ≡ base.Id m = let e = h.1 in cc in
      let it : IsTermOf b st d xs (base.Id m) v u = subst (λ (p : TBase). IsTermOf b st d xs p v u) same h.3 in
      let one = it xs (prefix-itself xs) in
      ap (has_record d m) (ap id_of one.1) ∙ one.2
  record-value m v (held n f u) h = let one = h xs (prefix-itself xs) in ap (has_record d m) (ap id_of one.1) ∙ one.2
  record-value m v (truth c) h = let never : Plain (base.Id m) ≡ Plain base.Bool = h.0 in cc
  record-value m v (among c) h = let never = h.1 in cc
  record-value m v none h = let never = h.1 in cc
  record-value m v (some c) h = let never = h.1 in cc
  record-value m v (choice c x y) h =
      elim h.0 as (λ (t : Bool). h.0 ≡ t → has_record d m (id_of v) ≡ true) [
        | true ↦ λ e. record-value m v x (h.2 e)
        | false ↦ λ e. record-value m v y (h.3 e)
      ] refl

  -- the value in an option
  record IsFilled (p : TBase) (v : Value) : Type 0 where
    value : Value
    is : v ≡ Just value
    cases : Cases
    meaning : Means b st d xs (Plain p) value cases
    typing : HasType b (Plain p) cases

  option-value : (p : TBase) (v : Value) (c : Cases) → Means b st d xs (Opt p) v c → HasType b (Opt p) c → (v ≡ Nothing) ⊎ (IsFilled p v)
  option-value p v (at_term u) h y = let never = h.1 in cc
  option-value p v (held n f u) h y =
      elim h [
        | inl is ↦ inl is.0
        | inr is ↦ inr (record { value = is.0; is = is.1; cases = held n f u; meaning = is.3; typing = y ∙ option-type b p })
      ]
  option-value p v (truth c) h y = let never = h.0 in cc
  option-value p v (among c) h y = let never = h.1 in cc
  option-value p v none h y = inl h.2
  option-value p v (some c) h y =
      let one : h.0 ≡ p = let e = h.1 in cc in
      let two : y.0 ≡ p = let e = y.1 in cc in
      inr (record {
        value = h.2.0;
        is = h.2.1;
        cases = c;
        meaning = subst (λ (i : TBase). Means b st d xs (Plain i) h.2.0 c) one h.2.2;
        typing = subst (λ (i : TBase). HasType b (Plain i) c) two y.2;
      })
  option-value p v (choice c x z) h y =
      elim h.0 as (λ (t : Bool). h.0 ≡ t → (v ≡ Nothing) ⊎ (IsFilled p v)) [
        | true ↦ λ e. option-value p v x (h.2 e) y.0
        | false ↦ λ e. option-value p v z (h.3 e) y.1
      ] refl

-- ---- lists

module _ (T : Cell → Bool) where
  abbrev Any : List Cell → Type 0
  Any cells = list_any T cells ≡ true

  in-if : {G : Type 0} (x : Bool) (cells : List Cell) → (Any cells → G) → Any (if x then cells else []) → G
  in-if {G} true cells k h = k h
  in-if {G} false cells k h = cc

  in-unless : {G : Type 0} (x : Bool) (cells : List Cell) → (Any cells → G) → Any (if x then [] else cells) → G
  in-unless {G} true cells k h = cc
  in-unless {G} false cells k h = k h

  in-none : {G : Type 0} (v : Value) (cells : List Cell) → (Any cells → G) → Any (taken_apart v cells (λ w. [])) → G
  in-none {G} (Flag b) cells k h = k h
  in-none {G} (Num n) cells k h = k h
  in-none {G} (Str bytes) cells k h = k h
  in-none {G} (Id id) cells k h = k h
  in-none {G} (Ids ids) cells k h = k h
  in-none {G} Nothing cells k h = k h
  in-none {G} (Just w) cells k h = cc

  in-each : {G : Type 0} (K : ℕ → List Cell) (ids : List ℕ) → ((y : ℕ) → list_any (λ i. i == y) ids ≡ true → Any (K y) → G) → Any (flat_map K ids) → G
  in-each {G} K [] k h = cc
  in-each {G} K (y ∷ ids) k h =
      elim (or-true (list_any T (K y)) (list_any T (flat_map K ids)) (sym (list_any-append T (K y) (flat_map K ids)) ∙ h)) [
        | inl here ↦ k y (ap (λ t. t || list_any (λ i. i == y) ids) (eq-eqb y y refl)) here
        | inr later ↦
            in-each {G = G} K ids
            (λ z there e. k z (elim (y == z) as (λ (t : Bool). (t || list_any (λ i. i == z) ids) ≡ true) [ true ↦ refl | false ↦ there ]) e) later
      ]

-- ---- the law

module _ (b s : Schema) (written : Written) (st : Structure) (d now : Database) (shows : Shows b s written st d now) (used : Use) (id : ℕ) where
  abbrev T : Cell → Bool
  T = is_at used id

  -- the record is there
  abbrev G : Type 0
  G = has_record d used.model id ≡ true

  own-cell : (m f i : ℕ) → T (record { model = m; id = i; field = f }) ≡ true → has_record d m i ≡ true → G
  own-cell m f i h there =
      let model : used.model ≡ m = eqb-true _ _ (and-left (used.model == m) _ h) in
      let same : id ≡ i = eqb-true _ _ (and-right (used.field == f) _ (and-right (used.model == m) _ h)) in
      ap (λ n. has_record d n id) model ∙ ap (has_record d m) same ∙ there

  access : (m f : ℕ) (x : Expr) (scope : Scope) (env : Env) (scene : Scene) (xs : List ℕ) → Stands b st d xs scope env scene → IsExpr s scope (Plain (base.Id m)) x
      → list_any T ((record { model = m; id = id_of (value_of now env x); field = f }) ∷ []) ≡ true → G
  access m f x scope env scene xs h e k =
      elim (or-true (T (record { model = m; id = id_of (value_of now env x); field = f })) false k) [
        | inl here ↦
            own-cell m f (id_of (value_of now env x)) here
            (record-value b st d xs m (value_of now env x) (cases_of b written scene x) (means b s written st d now shows x scope env scene xs h (Plain (base.Id m)) e))
        | inr never ↦ cc
      ]

  each-record : (m f : ℕ) → HasModel s m → list_any T (map (λ i. record { model = m; id = i; field = f }) (ids_of now m)) ≡ true → G
  each-record m f model h =
      let one = some-mapped (ids_of now m) h in
      own-cell m f one.0 one.1 (ap (list_any (λ j. j == one.0)) (sym (shows.ids m model)) ∙ one.2)
    where
      some-mapped : (ids : List ℕ) → list_any T (map (λ i. record { model = m; id = i; field = f }) ids) ≡ true
          → (i : ℕ) × (T (record { model = m; id = i; field = f }) ≡ true) × (list_any (λ j. j == i) ids ≡ true)
      some-mapped [] k = cc
      some-mapped (i ∷ ids) k =
          elim (or-true (T (record { model = m; id = i; field = f })) _ k) [
            | inl here ↦ (i, here, ap (λ t. t || list_any (λ j. j == i) ids) (eq-eqb i i refl))
            | inr later ↦
                let x = some-mapped ids later in
                (x.0, x.1, (elim (i == x.0) as (λ (t : Bool). (t || list_any (λ j. j == x.0) ids) ≡ true) [ true ↦ refl | false ↦ x.2 ]))
          ]

  -- a record of the source of `map` and of `flat_map` as the next variable
  inside : (n y : ℕ) (scope : Scope) (env : Env) (scene : Scene) (xs : List ℕ) → Stands b st d xs scope env scene → HasModel s n → list_any (λ i. i == y) (ids_of now n) ≡ true
      → Stands b st d (xs ++ element_of d n y ∷ []) (scope ++ Plain (base.Id n) ∷ []) (env ++ Id y ∷ []) (scene ++ at_term (bound (sort_of b n) (length xs)) ∷ [])
  inside n y scope env scene xs h model there =
      let zs : List ℕ = xs ++ element_of d n y ∷ [] in
      let here : has_record d n y ≡ true = ap (list_any (λ i. i == y)) (sym (shows.ids n model)) ∙ there in
      let it : IsTermOf b st d zs (base.Id n) (Id y) (bound (sort_of b n) (length xs))
      = λ ws q. (y, refl, here, ap (λ l. option_map (λ x. sval.Rec x) (slice_get l (length xs))) q.1 ∙ ap (option_map (λ x. sval.Rec x)) (get-next xs q.0 (element_of d n y))) in
      stands-and b st d zs scope env scene (Plain (base.Id n)) (Id y) (at_term (bound (sort_of b n) (length xs)))
      (stands-more b st d xs zs scope env scene (prefix-more xs (element_of d n y)) h) (base.Id n, refl, refl, it) (base.Id n, refl, refl)

  -- the branch for some value
  filled : (p : TBase) (x : Expr) (scope : Scope) (env : Env) (scene : Scene) (xs : List ℕ) → Stands b st d xs scope env scene → IsExpr s scope (Opt p) x
      → (cells : Value → List Cell)
      → ((w : Value) (c : Cases) → Stands b st d xs (scope ++ Plain p ∷ []) (env ++ w ∷ []) (scene ++ c ∷ []) → list_any T (cells w) ≡ true → G)
      → list_any T (taken_apart (value_of now env x) [] cells) ≡ true → G
  filled p x scope env scene xs h e cells k any =
      elim (option-value b st d xs p (value_of now env x) (cases_of b written scene x) (means b s written st d now shows x scope env scene xs h (Opt p) e)
      (typed b s written shows.types x scope scene (stands-typed b st d xs scope env scene h) (Opt p) e)) [
        | inl absent ↦ let never : false ≡ true = sym (ap (λ v. list_any T (taken_apart v [] cells)) absent) ∙ any in cc
        | inr is ↦
            k is.value is.cases (stands-and b st d xs scope env scene (Plain p) is.value is.cases h is.meaning is.typing)
            (sym (ap (λ v. list_any T (taken_apart v [] cells)) is.is) ∙ any)
      ]

  mutual
    there : (x : Expr) (scope : Scope) (env : Env) (scene : Scene) (xs : List ℕ) → Stands b st d xs scope env scene → (t : TTy) → IsExpr s scope t x
        → (n : ℕ) → list_any T (read_by now env x n) ≡ true → G
    there (flag y) scope env scene xs h t e n k = cc
    there (num i) scope env scene xs h t e n k = cc
    there (str bytes) scope env scene xs h t e n k = cc
    there (var depth name) scope env scene xs h t e n k = cc
    there nothing scope env scene xs h t e n k = cc
    there (just x) scope env scene xs h t e n k = there x scope env scene xs h (Plain e.0) e.2 n k
    there (get x m f) scope env scene xs h t e n k =
        part T {G = G} (length (uses_of x)) (λ n. read_by now env x n) (λ n. (record { model = m; id = id_of (value_of now env x); field = f }) ∷ []) n
        (λ n k. there x scope env scene xs h (Plain (base.Id m)) e.1 n k) (λ n k. access m f x scope env scene xs h e.1 k) k
    there (equal x y op) scope env scene xs h t e n k =
        part T {G = G} (length (uses_of x)) (λ n. read_by now env x n) (λ n. read_by now env y n) n
        (λ n k. there x scope env scene xs h (Plain e.1.0) e.1.2 n k) (λ n k. there y scope env scene xs h (Plain e.1.0) e.1.3 n k) k
    there (iff x y op) scope env scene xs h t e n k =
        part T {G = G} (length (uses_of x)) (λ n. read_by now env x n) (λ n. read_by now env y n) n
        (λ n k. there x scope env scene xs h (Plain base.Bool) e.1 n k) (λ n k. there y scope env scene xs h (Plain base.Bool) e.2 n k) k
    there (less x y op) scope env scene xs h t e n k =
        side T {G = G} op (length (uses_of x)) (length (uses_of y)) (λ n. read_by now env x n) (λ n. read_by now env y n) n
        (λ n k. there x scope env scene xs h (Plain base.Int) e.1 n k) (λ n k. there y scope env scene xs h (Plain base.Int) e.2 n k) k
    there (within x m set) scope env scene xs h t e n k =
        part T {G = G} (length (uses_of x)) (λ n. read_by now env x n) (λ n. set_read_by now env set n) n
        (λ n k. there x scope env scene xs h (Plain (base.Id m)) e.1 n k) (λ n k. set-there set scope env scene xs h (records m) e.2 n k) k
    there (negation x) scope env scene xs h t e n k = there x scope env scene xs h (Plain base.Bool) e.1 n k
    there (both x y) scope env scene xs h t e n k =
        part T {G = G} (length (uses_of x)) (λ n. read_by now env x n) (λ n. read_by now env y n) n
        (λ n k. there x scope env scene xs h (Plain base.Bool) e.1 n k) (λ n k. there y scope env scene xs h (Plain base.Bool) e.2 n k) k
    there (either x y) scope env scene xs h t e n k =
        part T {G = G} (length (uses_of x)) (λ n. read_by now env x n) (λ n. read_by now env y n) n
        (λ n k. there x scope env scene xs h (Plain base.Bool) e.1 n k) (λ n k. there y scope env scene xs h (Plain base.Bool) e.2 n k) k
    there (if_expr c x y) scope env scene xs h t e n k =
        let taken : Bool = truth_of (value_of now env c) in
        let f : ℕ → List Cell = λ n. if taken then read_by now env x n else [] in
        let g : ℕ → List Cell = λ n. if taken then [] else read_by now env y n in
        part T {G = G} (length (uses_of c)) (λ n. read_by now env c n) (in_parts (length (uses_of x)) f g) n
        (λ n k. there c scope env scene xs h (Plain base.Bool) e.0 n k)
        (λ n k. part T {G = G} (length (uses_of x)) f g n
        (λ n k. in-if T {G = G} taken (read_by now env x n) (λ k. there x scope env scene xs h t e.1 n k) k)
        (λ n k. in-unless T {G = G} taken (read_by now env y n) (λ k. there y scope env scene xs h t e.2 n k) k) k) k
    there (match_expr x y name c) scope env scene xs h t e n k =
        let f : ℕ → List Cell = λ n. taken_apart (value_of now env x) (read_by now env y n) (λ w. []) in
        let g : ℕ → List Cell = λ n. taken_apart (value_of now env x) [] (λ w. read_by now (env ++ w ∷ []) c n) in
        part T {G = G} (length (uses_of x)) (λ n. read_by now env x n) (in_parts (length (uses_of y)) f g) n
        (λ n k. there x scope env scene xs h (Opt e.0) e.1 n k)
        (λ n k. part T {G = G} (length (uses_of y)) f g n
        (λ n k. in-none T {G = G} (value_of now env x) (read_by now env y n) (λ k. there y scope env scene xs h t e.2 n k) k)
        (λ n k. filled e.0 x scope env scene xs h e.1 (λ w. read_by now (env ++ w ∷ []) c n)
        (λ w a more k. there c (scope ++ Plain e.0 ∷ []) (env ++ w ∷ []) (scene ++ a ∷ []) xs more t e.3 n k) k) k) k

    set-there : (x : SetExpr) (scope : Scope) (env : Env) (scene : Scene) (xs : List ℕ) → Stands b st d xs scope env scene → (w : Content) → IsSet s scope w x
        → (n : ℕ) → list_any T (set_read_by now env x n) ≡ true → G
    set-there everyone scope env scene xs h w e n k = cc
    set-there nobody scope env scene xs h w e n k = cc
    set-there (listed items) scope env scene xs h w e n k = items-there items scope env scene xs h w e n k
    set-there (union x y) scope env scene xs h w e n k =
        part T {G = G} (length (set_uses_of x)) (λ n. set_read_by now env x n) (λ n. set_read_by now env y n) n
        (λ n k. set-there x scope env scene xs h w e.0 n k) (λ n k. set-there y scope env scene xs h w e.1 n k) k
    set-there (minus x y) scope env scene xs h w e n k =
        part T {G = G} (length (set_uses_of x)) (λ n. set_read_by now env x n) (λ n. set_read_by now env y n) n
        (λ n k. set-there x scope env scene xs h w e.0 n k) (λ n k. set-there y scope env scene xs h w e.1 n k) k
    set-there (find m filters) scope env scene xs h w e n k = filters-there filters scope env scene xs h m e.1 e.2 n k
    set-there (path m x) scope env scene xs h w e n k = there x scope env scene xs h (Set m) e.1 n k
    set-there (mapped set i name m x) scope env scene xs h w e n k =
        part T {G = G} (length (set_uses_of set)) (λ n. set_read_by now env set n)
        (λ n. flat_map (λ y. if member now env set (Rec i y) then read_by now (env ++ Id y ∷ []) x n else []) (ids_of now i)) n
        (λ n k. set-there set scope env scene xs h (records i) e.2 n k)
        (λ n k. in-each T {G = G} (λ y. if member now env set (Rec i y) then read_by now (env ++ Id y ∷ []) x n else []) (ids_of now i)
        (λ y here k. in-if T {G = G} (member now env set (Rec i y)) (read_by now (env ++ Id y ∷ []) x n)
        (λ k. there x (scope ++ Plain (base.Id i) ∷ []) (env ++ Id y ∷ []) (scene ++ at_term (bound (sort_of b i) (length xs)) ∷ []) (xs ++ element_of d i y ∷ [])
        (inside i y scope env scene xs h e.1 here) (Plain (base.Id m)) e.3 n k) k) k) k
    set-there (flat_mapped set i name body) scope env scene xs h w e n k =
        part T {G = G} (length (set_uses_of set)) (λ n. set_read_by now env set n)
        (λ n. flat_map (λ y. if member now env set (Rec i y) then set_read_by now (env ++ Id y ∷ []) body n else []) (ids_of now i)) n
        (λ n k. set-there set scope env scene xs h (records i) e.1 n k)
        (λ n k. in-each T {G = G} (λ y. if member now env set (Rec i y) then set_read_by now (env ++ Id y ∷ []) body n else []) (ids_of now i)
        (λ y here k. in-if T {G = G} (member now env set (Rec i y)) (set_read_by now (env ++ Id y ∷ []) body n)
        (λ k. set-there body (scope ++ Plain (base.Id i) ∷ []) (env ++ Id y ∷ []) (scene ++ at_term (bound (sort_of b i) (length xs)) ∷ []) (xs ++ element_of d i y ∷ [])
        (inside i y scope env scene xs h e.0 here) w e.2 n k) k) k) k
    set-there (if_set c x y) scope env scene xs h w e n k =
        let taken : Bool = truth_of (value_of now env c) in
        let f : ℕ → List Cell = λ n. if taken then set_read_by now env x n else [] in
        let g : ℕ → List Cell = λ n. if taken then [] else set_read_by now env y n in
        part T {G = G} (length (uses_of c)) (λ n. read_by now env c n) (in_parts (length (set_uses_of x)) f g) n
        (λ n k. there c scope env scene xs h (Plain base.Bool) e.0 n k)
        (λ n k. part T {G = G} (length (set_uses_of x)) f g n
        (λ n k. in-if T {G = G} taken (set_read_by now env x n) (λ k. set-there x scope env scene xs h w e.1 n k) k)
        (λ n k. in-unless T {G = G} taken (set_read_by now env y n) (λ k. set-there y scope env scene xs h w e.2 n k) k) k) k
    set-there (match_set x y name c) scope env scene xs h w e n k =
        let f : ℕ → List Cell = λ n. taken_apart (value_of now env x) (set_read_by now env y n) (λ v. []) in
        let g : ℕ → List Cell = λ n. taken_apart (value_of now env x) [] (λ v. set_read_by now (env ++ v ∷ []) c n) in
        part T {G = G} (length (uses_of x)) (λ n. read_by now env x n) (in_parts (length (set_uses_of y)) f g) n
        (λ n k. there x scope env scene xs h (Opt e.0) e.1 n k)
        (λ n k. part T {G = G} (length (set_uses_of y)) f g n
        (λ n k. in-none T {G = G} (value_of now env x) (set_read_by now env y n) (λ k. set-there y scope env scene xs h w e.2 n k) k)
        (λ n k. filled e.0 x scope env scene xs h e.1 (λ v. set_read_by now (env ++ v ∷ []) c n)
        (λ v a more k. set-there c (scope ++ Plain e.0 ∷ []) (env ++ v ∷ []) (scene ++ a ∷ []) xs more w e.3 n k) k) k) k

    items-there : (x : Items) (scope : Scope) (env : Env) (scene : Scene) (xs : List ℕ) → Stands b st d xs scope env scene → (w : Content) → AreItems s scope w x
        → (n : ℕ) → list_any T (items_read_by now env x n) ≡ true → G
    items-there no_items scope env scene xs h w e n k = cc
    items-there (static_item i items) scope env scene xs h w e n k = items-there items scope env scene xs h w e.2 n k
    items-there (record_item m x items) scope env scene xs h w e n k =
        part T {G = G} (length (uses_of x)) (λ n. read_by now env x n) (λ n. items_read_by now env items n) n
        (λ n k. there x scope env scene xs h (Plain (base.Id m)) e.1 n k) (λ n k. items-there items scope env scene xs h w e.2 n k) k

    filters-there : (x : Filters) (scope : Scope) (env : Env) (scene : Scene) (xs : List ℕ) → Stands b st d xs scope env scene → (m : ℕ) → HasModel s m → AreFilters s scope m x
        → (n : ℕ) → list_any T (filters_read_by now env m x n) ≡ true → G
    filters-there no_filters scope env scene xs h m model e n k = cc
    filters-there (filter_and f op x filters) scope env scene xs h m model e n k =
        let own : ℕ → List Cell = λ n. map (λ i. record { model = m; id = i; field = f }) (ids_of now m) in
        part T {G = G} (length (uses_of x)) (λ n. read_by now env x n) (in_parts 1 own (λ n. filters_read_by now env m filters n)) n
        (λ n k. there x scope env scene xs h e.0.1 e.0.4 n k)
        (λ n k. part T {G = G} 1 own (λ n. filters_read_by now env m filters n) n
        (λ n k. each-record m f model k) (λ n k. filters-there filters scope env scene xs h m model e.1 n k) k) k

  pub init-there : (m : ℕ) (ty : TTy) (init : Init) → IsInit s m ty init → (xs : List ℕ) (own : ℕ) (r : Term) → IsTermOf b st d xs (base.Id m) (Id own) r
      → (n : ℕ) → list_any T (init_read_by now init own n) ≡ true → G
  init-there m ty (plain x) is xs own r it n k =
      there x (Plain (base.Id m) ∷ []) (Id own ∷ []) (at_term r ∷ []) xs ((base.Id m, refl, refl, it), (base.Id m, refl, refl), tt) ty is.1 n k
  init-there m ty (of_set i set) is xs own r it n k =
      set-there set (Plain (base.Id m) ∷ []) (Id own ∷ []) (at_term r ∷ []) xs ((base.Id m, refl, refl, it), (base.Id m, refl, refl), tt) (records i) is.1 n k
