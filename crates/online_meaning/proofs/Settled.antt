-- What is touched, and the models on which there is a `Find`, settle the meaning.
use Rattle.std.proofs.Common.{◌≡◌, ℕ, Bool, true, false, not, ◌&&◌, ◌||◌, List, [], ◌∷◌, ◌++◌, refl, ap, sym, ◌∙◌, subst, inl, inr}
use Rattle.std.specs.Prelude.{Option, Some, None, is_some, if◌then◌else◌, map, filter, ◌==◌}
use Rattle.std.specs.List.{list_any, flat_map, AllByRecursion}
use Rattle.std.specs.List.Sorted.{IsStrictlyIncreasing}
use Rattle.std.specs.Option.{option_map_or}
use Rattle.std.proofs.lemmas.Bool.{eqb-true}
use Rattle.type_schema.specs.declared.types.TBase.{TBase}
use Rattle.type_schema.specs.declared.types.TBase.TheVariants as base
use Rattle.type_schema.specs.declared.types.TTy.{TTy}
use Rattle.type_schema.specs.declared.types.TTy.TheVariants as ty
use Rattle.type_schema.specs.Trees.{Expr, flag, num, str, var, nothing, just, get, equal, iff, less, within, negation, both, either, if_expr, match_expr, SetExpr, everyone, nobody, listed, union, minus, find, path, mapped, flat_mapped, if_set, match_set, Items, no_items, static_item, record_item, Filters, no_filters, filter_and, Init, plain, of_set}
use Rattle.type_schema.specs.Schema.{ModelInfo, Schema, model_of}
use Rattle.type_schema.specs.Typing.{HasModel, Scope, Content, records, IsExpr, IsSet, AreItems, AreFilters, IsInit, IsType}
use Rattle.data_meaning.specs.declared.principals.Principal.{Principal}
use Rattle.data_meaning.specs.declared.principals.Principal.TheVariants.{Static, Rec}
use Rattle.data_meaning.specs.Values.{Value, Flag, Num, Str, Id, Ids, Nothing, Just, IsBaseValueOf}
use Rattle.data_meaning.specs.Database.{Record, Table, Database, table_of, ids_of, has_record, field_at, HasTable, IsDatabase}
use Rattle.data_meaning.specs.declared.cells.Cell.{Cell}
use Rattle.data_meaning.specs.Meaning.{Env, truth_of, id_of, set_of, are_equal, same_truth, is_less, passes, taken_apart, is_record, is_among, is_static, id_of_record, value_of, member, is_listed, meets}
use Rattle.data_meaning.specs.Touched.{touched, set_touched, items_touched, filters_touched, init_touched}
use Rattle.data_meaning.specs.Run.{init_value}
use Rattle.data_meaning.specs.Agreeing.{IsSameCell, AreSameCells}
use Rattle.data_meaning.specs.Sound.{IsHeld, AreHeld}
use Rattle.data_meaning.proofs.Agreement.{ap2}
use Rattle.data_meaning.proofs.Carried.{all-front, all-behind, all-of, all-both, all-passed}
use Rattle.data_meaning.proofs.Finds.{find-holds, find-among}
use Rattle.data_meaning.proofs.Members.{members-there, id-held}
use Rattle.data_meaning.proofs.Soundness.{held, held-more}
use Rattle.online_meaning.specs.Finds.{finds_of, set_finds_of, item_finds_of, filter_finds_of, init_finds_of}
use Rattle.online_meaning.specs.Settled.{HaveSameRecords, FindsSettleAll}
use Rattle.online_meaning.proofs.Ranges.{same-filtered, any-filtered, flat-filtered, each-of-flat, flat-same, any-same-in}

-- two equal values, and two equal lists of cells
abbrev Same : {A : Type 0} → A → A → List Cell → List Cell → Type 0
Same v w xs ys = (v ≡ w) × (xs ≡ ys)

-- the branch of an `if` that is taken
chosen : {A : Type 0} (P : Cell → Type 0) (b : Bool) (v v' w w' : A) (xs xs' ys ys' : List Cell)
    → (AllByRecursion P xs → Same v v' xs xs') → (AllByRecursion P ys → Same w w' ys ys')
    → AllByRecursion P (if b then xs else ys) → Same (if b then v else w) (if b then v' else w') (if b then xs else ys) (if b then xs' else ys')
chosen P true v v' w w' xs xs' ys ys' one other h = one h
chosen P false v v' w w' xs xs' ys ys' one other h = other h

-- the value in an option
pub in-option : (d : Database) (b : TBase) (x : Value) → IsHeld d (ty.Opt b) (Just x) → IsHeld d (ty.Plain b) x
in-option d b x h =
    elim h.0 [
      | inl none ↦ cc
      | inr some ↦ let same : some.0 ≡ x = cc in (subst (IsBaseValueOf b) same some.2, h.1)
    ]

-- the branch of a `match` that is taken, of an option that both databases hold
taken : {A : Type 0} (P : Cell → Type 0) (d e : Database) (b : TBase) (u : Value) (v v' : A) (w w' : Value → A) (xs xs' : List Cell) (ys ys' : Value → List Cell)
    → IsHeld d (ty.Opt b) u → IsHeld e (ty.Opt b) u → (AllByRecursion P xs → Same v v' xs xs')
    → ((x : Value) → IsHeld d (ty.Plain b) x → IsHeld e (ty.Plain b) x → AllByRecursion P (ys x) → Same (w x) (w' x) (ys x) (ys' x))
    → AllByRecursion P (taken_apart u xs ys) → Same (taken_apart u v w) (taken_apart u v' w') (taken_apart u xs ys) (taken_apart u xs' ys')
taken P d e b (Flag c) v v' w w' xs xs' ys ys' in-d in-e none some h = none h
taken P d e b (Num n) v v' w w' xs xs' ys ys' in-d in-e none some h = none h
taken P d e b (Str bytes) v v' w w' xs xs' ys ys' in-d in-e none some h = none h
taken P d e b (Id id) v v' w w' xs xs' ys ys' in-d in-e none some h = none h
taken P d e b (Ids ids) v v' w w' xs xs' ys ys' in-d in-e none some h = none h
taken P d e b Nothing v v' w w' xs xs' ys ys' in-d in-e none some h = none h
taken P d e b (Just x) v v' w w' xs xs' ys ys' in-d in-e none some h = some x (in-option d b x in-d) (in-option e b x in-e) h

-- one of the cells of a field
cell-among : (P : Cell → Type 0) (m f id : ℕ) (ids : List ℕ) → AllByRecursion P (map (λ i. record { model = m; id = i; field = f }) ids)
    → list_any (λ i. i == id) ids ≡ true → P (record { model = m; id = id; field = f })
cell-among P m f id [] all h = cc
cell-among P m f id (i ∷ ids) all h =
    elim (i == id) as (λ (b : Bool). (i == id) ≡ b → (b || list_any (λ j. j == id) ids) ≡ true → P (record { model = m; id = id; field = f })) [
      | true ↦ λ is e. subst (λ (j : ℕ). P (record { model = m; id = j; field = f })) (eqb-true _ _ is) all.0
      | false ↦ λ is e. cell-among P m f id ids all.1 e
    ] refl h

-- the ids of a model rise
pub ids-rise : (s : Schema) (d : Database) → IsDatabase s d → (n : ℕ) → HasModel s n → IsStrictlyIncreasing (ids_of d n)
ids-rise s d is n has = rise (model_of s n) refl has
  where
    rise : (o : Option ModelInfo) → model_of s n ≡ o → is_some o ≡ true → IsStrictlyIncreasing (ids_of d n)
    rise None here e = cc
    rise (Some i) here e =
        let table = find-among (HasTable d) (λ (u : ModelInfo). u.number == n) s.models i is.tables here in
        let number : i.number ≡ n = eqb-true _ _ (find-holds (λ (u : ModelInfo). u.number == n) s.models i here) in
        let at : table_of d n ≡ Some table.0 = ap (table_of d) (sym number) ∙ table.1 in
        subst IsStrictlyIncreasing (sym (ap (λ o. map (λ (r : Record). r.id) (option_map_or (λ (w : Table). w.records) o [])) at)) table.2.rising

module _ (s : Schema) (d e : Database) (is : IsDatabase s d) (is' : IsDatabase s e) where
  abbrev P : Cell → Type 0
  P = IsSameCell d e

  abbrev IsSameModel : ℕ → Type 0
  IsSameModel m = ids_of d m ≡ ids_of e m

  -- the records that are in a set of records of a model
  rows : (scope : Scope) (env : Env) → AreHeld d scope env → AreHeld e scope env → (n : ℕ) → HasModel s n → (x : SetExpr) → IsSet s scope (records n) x
      → ((q : Principal) → member d env x q ≡ member e env x q)
      → filter (λ y. member d env x (Rec n y)) (ids_of d n) ≡ filter (λ y. member e env x (Rec n y)) (ids_of e n)
  rows scope env in-d in-e n has x typed same =
      same-filtered (λ y. member d env x (Rec n y)) (λ y. member e env x (Rec n y)) (ids_of d n) (ids_of e n) (ids-rise s d is n has) (ids-rise s e is' n has)
      (λ y. same (Rec n y)) (λ y h. (members-there s d is scope env in-d n x typed (Rec n y) h).1)
      (λ y h. (members-there s e is' scope env in-e n x typed (Rec n y) (sym (same (Rec n y)) ∙ h)).1)

  -- each of them is there in both
  abbrev IsRow : ℕ → ℕ → Type 0
  IsRow n y = IsHeld d (ty.Plain (base.Id n)) (Id y) × IsHeld e (ty.Plain (base.Id n)) (Id y)

  are-rows : (scope : Scope) (env : Env) → AreHeld d scope env → AreHeld e scope env → (n : ℕ) → HasModel s n → (x : SetExpr) → IsSet s scope (records n) x
      → ((q : Principal) → member d env x q ≡ member e env x q) → AllByRecursion (IsRow n) (filter (λ y. member d env x (Rec n y)) (ids_of d n))
  are-rows scope env in-d in-e n has x typed same =
      all-of (λ y. member d env x (Rec n y) ≡ true) (IsRow n)
      (λ y h. (
        id-held s d is n y has (members-there s d is scope env in-d n x typed (Rec n y) h).1,
        id-held s e is' n y has (members-there s e is' scope env in-e n x typed (Rec n y) (sym (same (Rec n y)) ∙ h)).1,
      ))
      (filter (λ y. member d env x (Rec n y)) (ids_of d n)) (all-passed (λ y. member d env x (Rec n y)) (ids_of d n))

  -- what is read at each of them, and whether one of them passes
  module _ (source source' : ℕ → Bool) (body body' : ℕ → Bool) (cells cells' : ℕ → List Cell) (n : ℕ) where
    at-rows : filter source (ids_of d n) ≡ filter source' (ids_of e n) → AllByRecursion (IsRow n) (filter source (ids_of d n))
        → ((y : ℕ) → IsRow n y → AllByRecursion P (cells y) → (body y ≡ body' y) × (cells y ≡ cells' y))
        → AllByRecursion P (flat_map (λ y. if source y then cells y else []) (ids_of d n))
        → (list_any (λ y. source y && body y) (ids_of d n) ≡ list_any (λ y. source' y && body' y) (ids_of e n))
        × (flat_map (λ y. if source y then cells y else []) (ids_of d n) ≡ flat_map (λ y. if source' y then cells' y else []) (ids_of e n))
    at-rows same all each h =
        let kept : List ℕ = filter source (ids_of d n) in
        let read = each-of-flat P cells kept (subst (AllByRecursion P) (flat-filtered source cells (ids_of d n)) h) in
        let settled = all-both (IsRow n) (λ y. AllByRecursion P (cells y)) (λ y. (body y ≡ body' y) × (cells y ≡ cells' y)) each kept all read in
        let bodies = any-same-in body body' kept (all-of (λ y. (body y ≡ body' y) × (cells y ≡ cells' y)) (λ y. body y ≡ body' y) (λ y both. both.0) kept settled) in
        let reads = flat-same cells cells' kept (all-of (λ y. (body y ≡ body' y) × (cells y ≡ cells' y)) (λ y. cells y ≡ cells' y) (λ y both. both.1) kept settled) in (
          any-filtered source body (ids_of d n) ∙ bodies ∙ ap (list_any body') same ∙ sym (any-filtered source' body' (ids_of e n)),
          flat-filtered source cells (ids_of d n) ∙ reads ∙ ap (flat_map cells') same ∙ sym (flat-filtered source' cells' (ids_of e n)),
        )

  mutual
    of-expr : (x : Expr) (scope : Scope) (env : Env) → AreHeld d scope env → AreHeld e scope env → (t : TTy) → IsExpr s scope t x
        → AreSameCells d e (touched d env x) → HaveSameRecords d e (finds_of x) → Same (value_of d env x) (value_of e env x) (touched d env x) (touched e env x)
    of-expr (flag b) scope env in-d in-e t typed h k = (refl, refl)
    of-expr (num n) scope env in-d in-e t typed h k = (refl, refl)
    of-expr (str bytes) scope env in-d in-e t typed h k = (refl, refl)
    of-expr (var depth name) scope env in-d in-e t typed h k = (refl, refl)
    of-expr nothing scope env in-d in-e t typed h k = (refl, refl)
    of-expr (just x) scope env in-d in-e t typed h k = let one = of-expr x scope env in-d in-e (ty.Plain typed.0) typed.2 h k in (ap (λ v. Just v) one.0, one.1)
    of-expr (get x m f) scope env in-d in-e t typed h k =
        let one = of-expr x scope env in-d in-e (ty.Plain (base.Id m)) typed.1 (all-front P (touched d env x) _ h) k in
        let here = (all-behind P (touched d env x) _ h).0 in
        (here ∙ ap (λ v. field_at e m (id_of v) f) one.0, ap2 (λ cells v. cells ++ (record { model = m; id = id_of v; field = f }) ∷ []) one.1 one.0)
    of-expr (equal x y op) scope env in-d in-e t typed h k =
        let one = of-expr x scope env in-d in-e (ty.Plain typed.1.0) typed.1.2 (all-front P (touched d env x) _ h) (all-front IsSameModel (finds_of x) _ k) in
        let other = of-expr y scope env in-d in-e (ty.Plain typed.1.0) typed.1.3 (all-behind P (touched d env x) _ h) (all-behind IsSameModel (finds_of x) _ k) in
        (ap2 (λ v w. Flag (are_equal v w)) one.0 other.0, ap2 (λ a b. a ++ b) one.1 other.1)
    of-expr (iff x y op) scope env in-d in-e t typed h k =
        let one = of-expr x scope env in-d in-e (ty.Plain base.Bool) typed.1 (all-front P (touched d env x) _ h) (all-front IsSameModel (finds_of x) _ k) in
        let other = of-expr y scope env in-d in-e (ty.Plain base.Bool) typed.2 (all-behind P (touched d env x) _ h) (all-behind IsSameModel (finds_of x) _ k) in
        (ap2 (λ v w. Flag (same_truth (truth_of v) (truth_of w))) one.0 other.0, ap2 (λ a b. a ++ b) one.1 other.1)
    of-expr (less x y op) scope env in-d in-e t typed h k =
        let one = of-expr x scope env in-d in-e (ty.Plain base.Int) typed.1 (all-front P (touched d env x) _ h) (all-front IsSameModel (finds_of x) _ k) in
        let other = of-expr y scope env in-d in-e (ty.Plain base.Int) typed.2 (all-behind P (touched d env x) _ h) (all-behind IsSameModel (finds_of x) _ k) in
        (ap2 (λ v w. Flag (is_less v w)) one.0 other.0, ap2 (λ a b. a ++ b) one.1 other.1)
    of-expr (within x m set) scope env in-d in-e t typed h k =
        let one = of-expr x scope env in-d in-e (ty.Plain (base.Id m)) typed.1 (all-front P (touched d env x) _ h) (all-front IsSameModel (finds_of x) _ k) in
        let other = of-set set scope env in-d in-e (records m) typed.2 (all-behind P (touched d env x) _ h) (all-behind IsSameModel (finds_of x) _ k) in
        (ap (λ b. Flag b) (other.0 (Rec m (id_of (value_of d env x)))) ∙ ap (λ v. Flag (member e env set (Rec m (id_of v)))) one.0, ap2 (λ a b. a ++ b) one.1 other.1)
    of-expr (negation x) scope env in-d in-e t typed h k =
        let one = of-expr x scope env in-d in-e (ty.Plain base.Bool) typed.1 h k in (ap (λ v. Flag (not (truth_of v))) one.0, one.1)
    of-expr (both x y) scope env in-d in-e t typed h k =
        let one = of-expr x scope env in-d in-e (ty.Plain base.Bool) typed.1 (all-front P (touched d env x) _ h) (all-front IsSameModel (finds_of x) _ k) in
        let other = of-expr y scope env in-d in-e (ty.Plain base.Bool) typed.2 (all-behind P (touched d env x) _ h) (all-behind IsSameModel (finds_of x) _ k) in
        (ap2 (λ v w. Flag (truth_of v && truth_of w)) one.0 other.0, ap2 (λ a b. a ++ b) one.1 other.1)
    of-expr (either x y) scope env in-d in-e t typed h k =
        let one = of-expr x scope env in-d in-e (ty.Plain base.Bool) typed.1 (all-front P (touched d env x) _ h) (all-front IsSameModel (finds_of x) _ k) in
        let other = of-expr y scope env in-d in-e (ty.Plain base.Bool) typed.2 (all-behind P (touched d env x) _ h) (all-behind IsSameModel (finds_of x) _ k) in
        (ap2 (λ v w. Flag (truth_of v || truth_of w)) one.0 other.0, ap2 (λ a b. a ++ b) one.1 other.1)
    of-expr (if_expr c x y) scope env in-d in-e t typed h k =
        let first = all-front IsSameModel (finds_of c ++ finds_of x) (finds_of y) k in
        let one = of-expr c scope env in-d in-e (ty.Plain base.Bool) typed.0 (all-front P (touched d env c) _ h) (all-front IsSameModel (finds_of c) (finds_of x) first) in
        let second = all-behind IsSameModel (finds_of c) (finds_of x) first in
        let later = all-behind IsSameModel (finds_of c ++ finds_of x) (finds_of y) k in
        let branch = chosen P (truth_of (value_of d env c)) _ (value_of e env x) _ (value_of e env y) _ (touched e env x) _ (touched e env y)
        (λ u. of-expr x scope env in-d in-e t typed.1 u second)
        (λ u. of-expr y scope env in-d in-e t typed.2 u later) (all-behind P (touched d env c) _ h) in (
          branch.0 ∙ ap (λ v. if truth_of v then value_of e env x else value_of e env y) one.0,
          ap2 (λ a b. a ++ b) one.1 (branch.1 ∙ ap (λ v. if truth_of v then touched e env x else touched e env y) one.0),
        )
    of-expr (match_expr x y name z) scope env in-d in-e t typed h k =
        let b = typed.0 in
        let first = all-front IsSameModel (finds_of x ++ finds_of y) (finds_of z) k in
        let one = of-expr x scope env in-d in-e (ty.Opt b) typed.1 (all-front P (touched d env x) _ h) (all-front IsSameModel (finds_of x) (finds_of y) first) in
        let second = all-behind IsSameModel (finds_of x) (finds_of y) first in
        let later = all-behind IsSameModel (finds_of x ++ finds_of y) (finds_of z) k in
        let option = held s d is x scope env in-d (ty.Opt b) typed.1 in
        let option' = subst (IsHeld e (ty.Opt b)) (sym one.0) (held s e is' x scope env in-e (ty.Opt b) typed.1) in
        let branch = taken P d e b (value_of d env x) _ (value_of e env y) (λ v. value_of d (env ++ v ∷ []) z) (λ v. value_of e (env ++ v ∷ []) z)
        _ (touched e env y) (λ v. touched d (env ++ v ∷ []) z) (λ v. touched e (env ++ v ∷ []) z) option option'
        (λ u. of-expr y scope env in-d in-e t typed.2 u second)
        (λ v held-d held-e u.
        of-expr z (scope ++ ty.Plain b ∷ []) (env ++ v ∷ []) (held-more d scope env (ty.Plain b) v in-d held-d) (held-more e scope env (ty.Plain b) v in-e held-e) t typed.3 u
        later) (all-behind P (touched d env x) _ h) in (
          branch.0 ∙ ap (λ u. taken_apart u (value_of e env y) (λ v. value_of e (env ++ v ∷ []) z)) one.0,
          ap2 (λ a b. a ++ b) one.1 (branch.1 ∙ ap (λ u. taken_apart u (touched e env y) (λ v. touched e (env ++ v ∷ []) z)) one.0),
        )

    of-set : (x : SetExpr) (scope : Scope) (env : Env) → AreHeld d scope env → AreHeld e scope env → (w : Content) → IsSet s scope w x
        → AreSameCells d e (set_touched d env x) → HaveSameRecords d e (set_finds_of x)
        → ((q : Principal) → member d env x q ≡ member e env x q) × (set_touched d env x ≡ set_touched e env x)
    of-set everyone scope env in-d in-e w typed h k = (λ q. refl, refl)
    of-set nobody scope env in-d in-e w typed h k = (λ q. refl, refl)
    of-set (listed items) scope env in-d in-e w typed h k = of-items items scope env in-d in-e w typed h k
    of-set (union x y) scope env in-d in-e w typed h k =
        let one = of-set x scope env in-d in-e w typed.0 (all-front P (set_touched d env x) _ h) (all-front IsSameModel (set_finds_of x) _ k) in
        let other = of-set y scope env in-d in-e w typed.1 (all-behind P (set_touched d env x) _ h) (all-behind IsSameModel (set_finds_of x) _ k) in
        (λ q. ap2 (λ a b. a || b) (one.0 q) (other.0 q), ap2 (λ a b. a ++ b) one.1 other.1)
    of-set (minus x y) scope env in-d in-e w typed h k =
        let one = of-set x scope env in-d in-e w typed.0 (all-front P (set_touched d env x) _ h) (all-front IsSameModel (set_finds_of x) _ k) in
        let other = of-set y scope env in-d in-e w typed.1 (all-behind P (set_touched d env x) _ h) (all-behind IsSameModel (set_finds_of x) _ k) in
        (λ q. ap2 (λ a b. a && not b) (one.0 q) (other.0 q), ap2 (λ a b. a ++ b) one.1 other.1)
    of-set (find m filters) scope env in-d in-e w typed h k =
        let all = of-filters filters m scope env in-d in-e k.0 typed.2 h k.1 in
        (λ q. found q all.0, all.1)
      where
        found : (q : Principal) → ((id : ℕ) → list_any (λ i. i == id) (ids_of d m) ≡ true → meets d env m filters id ≡ meets e env m filters id)
            → (is_among m (ids_of d m) q && meets d env m filters (id_of_record q)) ≡ (is_among m (ids_of e m) q && meets e env m filters (id_of_record q))
        found (Static n) same = refl
        found (Rec n id) same =
            (elim (n == m) as (λ (b : Bool). ((b && list_any (λ i. i == id) (ids_of d m)) && meets d env m filters id) ≡ ((b && list_any (λ i. i == id) (ids_of d m)) && meets e env m filters id)) [
              | true ↦
                  elim (list_any (λ i. i == id) (ids_of d m)) as (λ (b : Bool). list_any (λ i. i == id) (ids_of d m) ≡ b → (b && meets d env m filters id) ≡ (b && meets e env m filters id)) [
                    | true ↦ λ there. same id there
                    | false ↦ λ there. refl
                  ] refl
              | false ↦ refl
            ]) ∙ ap (λ is. is_among m is (Rec n id) && meets e env m filters id) k.0
    of-set (path m x) scope env in-d in-e w typed h k =
        let one = of-expr x scope env in-d in-e (ty.Set m) typed.1 h k in (λ q. ap (λ v. is_among m (set_of v) q) one.0, one.1)
    of-set (mapped set n name m x) scope env in-d in-e w typed h k =
        let one = of-set set scope env in-d in-e (records n) typed.2 (all-front P (set_touched d env set) _ h) (all-front IsSameModel (set_finds_of set) _ k) in
        let same = rows scope env in-d in-e n typed.1 set typed.2 one.0 in
        let there = are-rows scope env in-d in-e n typed.1 set typed.2 one.0 in
        let images = λ (q : Principal).
        at-rows (λ y. member d env set (Rec n y)) (λ y. member e env set (Rec n y))
        (λ y. is_record m (value_of d (env ++ Id y ∷ []) x) q) (λ y. is_record m (value_of e (env ++ Id y ∷ []) x) q)
        (λ y. touched d (env ++ Id y ∷ []) x) (λ y. touched e (env ++ Id y ∷ []) x) n same there
        (λ y row u.
        let at = of-expr x (scope ++ ty.Plain (base.Id n) ∷ []) (env ++ Id y ∷ []) (held-more d scope env (ty.Plain (base.Id n)) (Id y) in-d row.0)
        (held-more e scope env (ty.Plain (base.Id n)) (Id y) in-e row.1) (ty.Plain (base.Id m)) typed.3 u (all-behind IsSameModel (set_finds_of set) _ k) in
        (ap (λ v. is_record m v q) at.0, at.1)) (all-behind P (set_touched d env set) _ h) in
        (λ q. (images q).0, ap2 (λ a b. a ++ b) one.1 (images (Static 0)).1)
    of-set (flat_mapped set n name body) scope env in-d in-e w typed h k =
        let one = of-set set scope env in-d in-e (records n) typed.1 (all-front P (set_touched d env set) _ h) (all-front IsSameModel (set_finds_of set) _ k) in
        let same = rows scope env in-d in-e n typed.0 set typed.1 one.0 in
        let there = are-rows scope env in-d in-e n typed.0 set typed.1 one.0 in
        let images = λ (q : Principal).
        at-rows (λ y. member d env set (Rec n y)) (λ y. member e env set (Rec n y))
        (λ y. member d (env ++ Id y ∷ []) body q) (λ y. member e (env ++ Id y ∷ []) body q)
        (λ y. set_touched d (env ++ Id y ∷ []) body) (λ y. set_touched e (env ++ Id y ∷ []) body) n same there
        (λ y row u.
        let at = of-set body (scope ++ ty.Plain (base.Id n) ∷ []) (env ++ Id y ∷ []) (held-more d scope env (ty.Plain (base.Id n)) (Id y) in-d row.0)
        (held-more e scope env (ty.Plain (base.Id n)) (Id y) in-e row.1) w typed.2 u (all-behind IsSameModel (set_finds_of set) _ k) in
        (at.0 q, at.1)) (all-behind P (set_touched d env set) _ h) in
        (λ q. (images q).0, ap2 (λ a b. a ++ b) one.1 (images (Static 0)).1)
    of-set (if_set c x y) scope env in-d in-e w typed h k =
        let first = all-front IsSameModel (finds_of c ++ set_finds_of x) (set_finds_of y) k in
        let one = of-expr c scope env in-d in-e (ty.Plain base.Bool) typed.0 (all-front P (touched d env c) _ h) (all-front IsSameModel (finds_of c) (set_finds_of x) first) in
        let second = all-behind IsSameModel (finds_of c) (set_finds_of x) first in
        let later = all-behind IsSameModel (finds_of c ++ set_finds_of x) (set_finds_of y) k in
        let taken_c : Bool = truth_of (value_of d env c) in
        let left = λ (u : AreSameCells d e (set_touched d env x)). of-set x scope env in-d in-e w typed.1 u second in
        let right = λ (u : AreSameCells d e (set_touched d env y)). of-set y scope env in-d in-e w typed.2 u later in
        let branch : (q : Principal) → Same (if taken_c then member d env x q else member d env y q) (if taken_c then member e env x q else member e env y q)
        (if taken_c then set_touched d env x else set_touched d env y) (if taken_c then set_touched e env x else set_touched e env y)
        = λ q. chosen P taken_c (member d env x q) (member e env x q) (member d env y q) (member e env y q)
        (set_touched d env x) (set_touched e env x) (set_touched d env y) (set_touched e env y)
        (λ u. ((left u).0 q, (left u).1)) (λ u. ((right u).0 q, (right u).1)) (all-behind P (touched d env c) _ h) in (
          λ q. (branch q).0 ∙ ap (λ v. if truth_of v then member e env x q else member e env y q) one.0,
          ap2 (λ a b. a ++ b) one.1 ((branch (Static 0)).1 ∙ ap (λ v. if truth_of v then set_touched e env x else set_touched e env y) one.0),
        )
    of-set (match_set x y name z) scope env in-d in-e w typed h k =
        let b = typed.0 in
        let first = all-front IsSameModel (finds_of x ++ set_finds_of y) (set_finds_of z) k in
        let one = of-expr x scope env in-d in-e (ty.Opt b) typed.1 (all-front P (touched d env x) _ h) (all-front IsSameModel (finds_of x) (set_finds_of y) first) in
        let second = all-behind IsSameModel (finds_of x) (set_finds_of y) first in
        let later = all-behind IsSameModel (finds_of x ++ set_finds_of y) (set_finds_of z) k in
        let option = held s d is x scope env in-d (ty.Opt b) typed.1 in
        let option' = subst (IsHeld e (ty.Opt b)) (sym one.0) (held s e is' x scope env in-e (ty.Opt b) typed.1) in
        let none = λ (u : AreSameCells d e (set_touched d env y)). of-set y scope env in-d in-e w typed.2 u second in
        let some = λ (v : Value) (held-d : IsHeld d (ty.Plain b) v) (held-e : IsHeld e (ty.Plain b) v) (u : AreSameCells d e (set_touched d (env ++ v ∷ []) z)).
        of-set z (scope ++ ty.Plain b ∷ []) (env ++ v ∷ []) (held-more d scope env (ty.Plain b) v in-d held-d) (held-more e scope env (ty.Plain b) v in-e held-e) w typed.3 u
        later in
        let branch : (q : Principal) → Same (taken_apart (value_of d env x) (member d env y q) (λ v. member d (env ++ v ∷ []) z q))
        (taken_apart (value_of d env x) (member e env y q) (λ v. member e (env ++ v ∷ []) z q))
        (taken_apart (value_of d env x) (set_touched d env y) (λ v. set_touched d (env ++ v ∷ []) z))
        (taken_apart (value_of d env x) (set_touched e env y) (λ v. set_touched e (env ++ v ∷ []) z))
        = λ q. taken P d e b (value_of d env x) (member d env y q) (member e env y q) (λ v. member d (env ++ v ∷ []) z q) (λ v. member e (env ++ v ∷ []) z q)
        (set_touched d env y) (set_touched e env y) (λ v. set_touched d (env ++ v ∷ []) z) (λ v. set_touched e (env ++ v ∷ []) z) option option'
        (λ u. ((none u).0 q, (none u).1)) (λ v held-d held-e u. ((some v held-d held-e u).0 q, (some v held-d held-e u).1)) (all-behind P (touched d env x) _ h) in (
          λ q. (branch q).0 ∙ ap (λ u. taken_apart u (member e env y q) (λ v. member e (env ++ v ∷ []) z q)) one.0,
          ap2 (λ a b. a ++ b) one.1 ((branch (Static 0)).1 ∙ ap (λ u. taken_apart u (set_touched e env y) (λ v. set_touched e (env ++ v ∷ []) z)) one.0),
        )

    of-items : (x : Items) (scope : Scope) (env : Env) → AreHeld d scope env → AreHeld e scope env → (w : Content) → AreItems s scope w x
        → AreSameCells d e (items_touched d env x) → HaveSameRecords d e (item_finds_of x)
        → ((q : Principal) → is_listed d env x q ≡ is_listed e env x q) × (items_touched d env x ≡ items_touched e env x)
    of-items no_items scope env in-d in-e w typed h k = (λ q. refl, refl)
    of-items (static_item n items) scope env in-d in-e w typed h k =
        let one = of-items items scope env in-d in-e w typed.2 h k in (λ q. ap (λ b. is_static n q || b) (one.0 q), one.1)
    of-items (record_item m x items) scope env in-d in-e w typed h k =
        let one = of-expr x scope env in-d in-e (ty.Plain (base.Id m)) typed.1 (all-front P (touched d env x) _ h) (all-front IsSameModel (finds_of x) _ k) in
        let other = of-items items scope env in-d in-e w typed.2 (all-behind P (touched d env x) _ h) (all-behind IsSameModel (finds_of x) _ k) in
        (λ q. ap2 (λ v b. is_record m v q || b) one.0 (other.0 q), ap2 (λ a b. a ++ b) one.1 other.1)

    of-filters : (x : Filters) (m : ℕ) (scope : Scope) (env : Env) → AreHeld d scope env → AreHeld e scope env → IsSameModel m → AreFilters s scope m x
        → AreSameCells d e (filters_touched d env m x) → HaveSameRecords d e (filter_finds_of x)
        → ((id : ℕ) → list_any (λ i. i == id) (ids_of d m) ≡ true → meets d env m x id ≡ meets e env m x id) × (filters_touched d env m x ≡ filters_touched e env m x)
    of-filters no_filters m scope env in-d in-e ids typed h k = (λ id there. refl, refl)
    of-filters (filter_and f op x filters) m scope env in-d in-e ids typed h k =
        let cells : List Cell = map (λ i. record { model = m; id = i; field = f }) (ids_of d m) in
        let first = all-front P (touched d env x ++ cells) (filters_touched d env m filters) h in
        let one = of-expr x scope env in-d in-e typed.0.1 typed.0.4 (all-front P (touched d env x) cells first) (all-front IsSameModel (finds_of x) _ k) in
        let at = all-behind P (touched d env x) cells first in
        let other = of-filters filters m scope env in-d in-e ids typed.1 (all-behind P (touched d env x ++ cells) (filters_touched d env m filters) h) (all-behind IsSameModel (finds_of x) _ k) in (
          λ id there.
              ap (λ held. passes op held (value_of d env x) && meets d env m filters id) (cell-among P m f id (ids_of d m) at there)
              ∙ ap2 (λ v b. passes op (field_at e m id f) v && b) one.0 (other.0 id there),
          ap2 (λ a b. a ++ b) (ap2 (λ a b. a ++ b) one.1 (ap (map (λ i. record { model = m; id = i; field = f })) ids)) other.1,
        )

  pub of-init : (m id : ℕ) → HasModel s m → has_record d m id ≡ true → has_record e m id ≡ true → (t : TTy) (init : Init) → IsType s t → IsInit s m t init
      → AreSameCells d e (init_touched d init id) → HaveSameRecords d e (init_finds_of init)
      → Same (init_value d init id) (init_value e init id) (init_touched d init id) (init_touched e init id)
  of-init m id has there there' t (plain x) type typed h k =
      of-expr x (ty.Plain (base.Id m) ∷ []) (Id id ∷ []) (id-held s d is m id has there, tt) (id-held s e is' m id has there', tt) t typed.1 h k
  of-init m id has there there' t (of_set n set) type typed h k =
      let in-d : AreHeld d (ty.Plain (base.Id m) ∷ []) (Id id ∷ []) = (id-held s d is m id has there, tt) in
      let in-e : AreHeld e (ty.Plain (base.Id m) ∷ []) (Id id ∷ []) = (id-held s e is' m id has there', tt) in
      let one = of-set set (ty.Plain (base.Id m) ∷ []) (Id id ∷ []) in-d in-e (records n) typed.1 h k in
      (ap (λ ids. Ids ids) (rows (ty.Plain (base.Id m) ∷ []) (Id id ∷ []) in-d in-e n (subst (IsType s) typed.0 type) set typed.1 one.0), one.1)

pub settle : FindsSettleAll
settle s d e is is' = record {
  of_expr = λ scope env in-d in-e t x typed h k. of-expr s d e is is' x scope env in-d in-e t typed h k;
  of_set = λ scope env in-d in-e w x typed h k. of-set s d e is is' x scope env in-d in-e w typed h k;
  of_init = λ m id has there there' t init type typed h k. of-init s d e is is' m id has there there' t init type typed h k;
}
