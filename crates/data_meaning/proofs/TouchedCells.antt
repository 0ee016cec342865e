-- What is touched settles the meaning.
use Rattle.std.proofs.Common.{◌≡◌, ℕ, Bool, true, false, not, ◌&&◌, ◌||◌, List, [], ◌∷◌, ◌++◌, refl, ap, ◌∙◌, subst, cond}
use Rattle.std.specs.Prelude.{if◌then◌else◌, map, filter, ◌==◌}
use Rattle.std.specs.List.{list_any, flat_map, AllByRecursion}
use Rattle.std.proofs.lemmas.Bool.{eqb-true}
use Rattle.type_schema.specs.Trees.{Expr, flag, num, str, var, nothing, just, get, equal, iff, less, within, negation, both, either, if_expr, match_expr, SetExpr, everyone, nobody, listed, union, minus, find, path, mapped, flat_mapped, if_set, match_set, Items, no_items, static_item, record_item, Filters, no_filters, filter_and, Init, plain, of_set}
use Rattle.data_meaning.specs.declared.principals.Principal.{Principal}
use Rattle.data_meaning.specs.declared.principals.Principal.TheVariants.{Static, Rec}
use Rattle.data_meaning.specs.Values.{Value, Flag, Num, Str, Id, Ids, Nothing, Just}
use Rattle.data_meaning.specs.Database.{Database, ids_of, field_at}
use Rattle.data_meaning.specs.declared.cells.Cell.{Cell}
use Rattle.data_meaning.specs.Meaning.{Env, truth_of, id_of, set_of, are_equal, same_truth, is_less, passes, taken_apart, is_record, is_among, is_static, id_of_record, value_of, member, is_listed, meets}
use Rattle.data_meaning.specs.Touched.{touched, set_touched, items_touched, filters_touched, init_touched}
use Rattle.data_meaning.specs.Run.{init_value}
use Rattle.data_meaning.specs.Agreeing.{HaveSameIds, IsSameCell, AreSameCells, TouchedSettlesAll}
use Rattle.data_meaning.proofs.Agreement.{ap2}

all-front : {A : Type 0} (P : A → Type 0) (xs ys : List A) → AllByRecursion P (xs ++ ys) → AllByRecursion P xs
all-front P [] ys h = tt
all-front P (x ∷ xs) ys h = (h.0, all-front P xs ys h.1)

all-back : {A : Type 0} (P : A → Type 0) (xs ys : List A) → AllByRecursion P (xs ++ ys) → AllByRecursion P ys
all-back P [] ys h = h
all-back P (x ∷ xs) ys h = all-back P xs ys h.1

-- two equal values, and two equal lists of cells
abbrev Same : {A : Type 0} → A → A → List Cell → List Cell → Type 0
Same v w xs ys = (v ≡ w) × (xs ≡ ys)

-- the branch of an `if` that is taken
chosen : {A : Type 0} (P : Cell → Type 0) (b : Bool) (v v' w w' : A) (xs xs' ys ys' : List Cell)
    → (AllByRecursion P xs → Same v v' xs xs') → (AllByRecursion P ys → Same w w' ys ys')
    → AllByRecursion P (if b then xs else ys) → Same (if b then v else w) (if b then v' else w') (if b then xs else ys) (if b then xs' else ys')
chosen P true v v' w w' xs xs' ys ys' one other h = one h
chosen P false v v' w w' xs xs' ys ys' one other h = other h

-- the branch of a `match` that is taken
taken : {A : Type 0} (P : Cell → Type 0) (u : Value) (v v' : A) (w w' : Value → A) (xs xs' : List Cell) (ys ys' : Value → List Cell)
    → (AllByRecursion P xs → Same v v' xs xs') → ((x : Value) → AllByRecursion P (ys x) → Same (w x) (w' x) (ys x) (ys' x))
    → AllByRecursion P (taken_apart u xs ys) → Same (taken_apart u v w) (taken_apart u v' w') (taken_apart u xs ys) (taken_apart u xs' ys')
taken P (Flag b) v v' w w' xs xs' ys ys' none some h = none h
taken P (Num n) v v' w w' xs xs' ys ys' none some h = none h
taken P (Str bytes) v v' w w' xs xs' ys ys' none some h = none h
taken P (Id id) v v' w w' xs xs' ys ys' none some h = none h
taken P (Ids ids) v v' w w' xs xs' ys ys' none some h = none h
taken P Nothing v v' w w' xs xs' ys ys' none some h = none h
taken P (Just x) v v' w w' xs xs' ys ys' none some h = some x h

-- the body of `map` and of `flat_map`, at each record in the source
module _ (P : Cell → Type 0) (source source' : ℕ → Bool) (same : (y : ℕ) → source y ≡ source' y) (cells cells' : ℕ → List Cell) where
  abbrev cells_at : ℕ → List Cell
  cells_at y = if source y then cells y else []

  abbrev cells_at' : ℕ → List Cell
  cells_at' y = if source' y then cells' y else []

  any-each : (body body' : ℕ → Bool) → ((y : ℕ) → AllByRecursion P (cells y) → body y ≡ body' y) → (ys : List ℕ) → AllByRecursion P (flat_map cells_at ys)
      → list_any (λ y. source y && body y) ys ≡ list_any (λ y. source' y && body' y) ys
  any-each body body' at [] h = refl
  any-each body body' at (y ∷ ys) h =
      ap2 (λ a b. a || b)
      ((elim (source y) as (λ (b : Bool). AllByRecursion P (if b then cells y else []) → (b && body y) ≡ (b && body' y)) [
        | true ↦ λ k. at y k
        | false ↦ λ k. refl
      ]) (all-front P (cells_at y) (flat_map cells_at ys) h) ∙ ap (λ b. b && body' y) (same y))
      (any-each body body' at ys (all-back P (cells_at y) (flat_map cells_at ys) h))

  flat-each : ((y : ℕ) → AllByRecursion P (cells y) → cells y ≡ cells' y) → (ys : List ℕ) → AllByRecursion P (flat_map cells_at ys)
      → flat_map cells_at ys ≡ flat_map cells_at' ys
  flat-each at [] h = refl
  flat-each at (y ∷ ys) h =
      ap2 (λ a b. a ++ b)
      ((elim (source y) as (λ (b : Bool). AllByRecursion P (if b then cells y else []) → (if b then cells y else []) ≡ (if b then cells' y else [])) [
        | true ↦ λ k. at y k
        | false ↦ λ k. refl
      ]) (all-front P (cells_at y) (flat_map cells_at ys) h) ∙ ap (λ b. if b then cells' y else []) (same y))
      (flat-each at ys (all-back P (cells_at y) (flat_map cells_at ys) h))

-- one of the cells of a field
cell-among : (P : Cell → Type 0) (m f id : ℕ) (ids : List ℕ) → AllByRecursion P (map (λ i. record { model = m; id = i; field = f }) ids)
    → list_any (λ i. i == id) ids ≡ true → P (record { model = m; id = id; field = f })
cell-among P m f id [] all h = cc
cell-among P m f id (i ∷ ids) all h =
    elim (i == id) as (λ (b : Bool). (i == id) ≡ b → (b || list_any (λ j. j == id) ids) ≡ true → P (record { model = m; id = id; field = f })) [
      | true ↦ λ is e. subst (λ (j : ℕ). P (record { model = m; id = j; field = f })) (eqb-true _ _ is) all.0
      | false ↦ λ is e. cell-among P m f id ids all.1 e
    ] refl h

filter-same : (p p' : ℕ → Bool) (xs : List ℕ) → ((x : ℕ) → p x ≡ p' x) → filter p xs ≡ filter p' xs
filter-same p p' [] e = refl
filter-same p p' (x ∷ xs) e = ap2 (λ b ys. cond b (x ∷ ys) ys) (e x) (filter-same p p' xs e)

module _ (d e : Database) (ids : HaveSameIds d e) where
  abbrev P : Cell → Type 0
  P = IsSameCell d e

  mutual
    of-expr : (x : Expr) (env : Env) → AreSameCells d e (touched d env x) → Same (value_of d env x) (value_of e env x) (touched d env x) (touched e env x)
    of-expr (flag b) env h = (refl, refl)
    of-expr (num n) env h = (refl, refl)
    of-expr (str bytes) env h = (refl, refl)
    of-expr (var depth name) env h = (refl, refl)
    of-expr nothing env h = (refl, refl)
    of-expr (just x) env h = let one = of-expr x env h in (ap (λ v. Just v) one.0, one.1)
    of-expr (get x m f) env h =
        let one = of-expr x env (all-front P (touched d env x) _ h) in
        let here = (all-back P (touched d env x) _ h).0 in
        (here ∙ ap (λ v. field_at e m (id_of v) f) one.0, ap2 (λ cells v. cells ++ (record { model = m; id = id_of v; field = f }) ∷ []) one.1 one.0)
    of-expr (equal x y op) env h =
        let one = of-expr x env (all-front P (touched d env x) _ h) in
        let other = of-expr y env (all-back P (touched d env x) _ h) in
        (ap2 (λ v w. Flag (are_equal v w)) one.0 other.0, ap2 (λ a b. a ++ b) one.1 other.1)
    of-expr (iff x y op) env h =
        let one = of-expr x env (all-front P (touched d env x) _ h) in
        let other = of-expr y env (all-back P (touched d env x) _ h) in
        (ap2 (λ v w. Flag (same_truth (truth_of v) (truth_of w))) one.0 other.0, ap2 (λ a b. a ++ b) one.1 other.1)
    of-expr (less x y op) env h =
        let one = of-expr x env (all-front P (touched d env x) _ h) in
        let other = of-expr y env (all-back P (touched d env x) _ h) in
        (ap2 (λ v w. Flag (is_less v w)) one.0 other.0, ap2 (λ a b. a ++ b) one.1 other.1)
    of-expr (within x m set) env h =
        let one = of-expr x env (all-front P (touched d env x) _ h) in
        let other = of-set set env (all-back P (touched d env x) _ h) in
        (ap (λ b. Flag b) (other.0 (Rec m (id_of (value_of d env x)))) ∙ ap (λ v. Flag (member e env set (Rec m (id_of v)))) one.0, ap2 (λ a b. a ++ b) one.1 other.1)
    of-expr (negation x) env h = let one = of-expr x env h in (ap (λ v. Flag (not (truth_of v))) one.0, one.1)
    of-expr (both x y) env h =
        let one = of-expr x env (all-front P (touched d env x) _ h) in
        let other = of-expr y env (all-back P (touched d env x) _ h) in
        (ap2 (λ v w. Flag (truth_of v && truth_of w)) one.0 other.0, ap2 (λ a b. a ++ b) one.1 other.1)
    of-expr (either x y) env h =
        let one = of-expr x env (all-front P (touched d env x) _ h) in
        let other = of-expr y env (all-back P (touched d env x) _ h) in
        (ap2 (λ v w. Flag (truth_of v || truth_of w)) one.0 other.0, ap2 (λ a b. a ++ b) one.1 other.1)
    of-expr (if_expr c x y) env h =
        let one = of-expr c env (all-front P (touched d env c) _ h) in
        let branch = chosen P (truth_of (value_of d env c)) _ (value_of e env x) _ (value_of e env y) _ (touched e env x) _ (touched e env y)
        (of-expr x env) (of-expr y env) (all-back P (touched d env c) _ h) in (
          branch.0 ∙ ap (λ v. if truth_of v then value_of e env x else value_of e env y) one.0,
          ap2 (λ a b. a ++ b) one.1 (branch.1 ∙ ap (λ v. if truth_of v then touched e env x else touched e env y) one.0),
        )
    of-expr (match_expr x y name z) env h =
        let one = of-expr x env (all-front P (touched d env x) _ h) in
        let branch = taken P (value_of d env x) _ (value_of e env y) (λ v. value_of d (env ++ v ∷ []) z) (λ v. value_of e (env ++ v ∷ []) z)
        _ (touched e env y) (λ v. touched d (env ++ v ∷ []) z) (λ v. touched e (env ++ v ∷ []) z)
        (of-expr y env) (λ v. of-expr z (env ++ v ∷ [])) (all-back P (touched d env x) _ h) in (
          branch.0 ∙ ap (λ u. taken_apart u (value_of e env y) (λ v. value_of e (env ++ v ∷ []) z)) one.0,
          ap2 (λ a b. a ++ b) one.1 (branch.1 ∙ ap (λ u. taken_apart u (touched e env y) (λ v. touched e (env ++ v ∷ []) z)) one.0),
        )

    of-set : (x : SetExpr) (env : Env) → AreSameCells d e (set_touched d env x)
        → ((q : Principal) → member d env x q ≡ member e env x q) × (set_touched d env x ≡ set_touched e env x)
    of-set everyone env h = (λ q. refl, refl)
    of-set nobody env h = (λ q. refl, refl)
    of-set (listed items) env h = of-items items env h
    of-set (union x y) env h =
        let one = of-set x env (all-front P (set_touched d env x) _ h) in
        let other = of-set y env (all-back P (set_touched d env x) _ h) in
        (λ q. ap2 (λ a b. a || b) (one.0 q) (other.0 q), ap2 (λ a b. a ++ b) one.1 other.1)
    of-set (minus x y) env h =
        let one = of-set x env (all-front P (set_touched d env x) _ h) in
        let other = of-set y env (all-back P (set_touched d env x) _ h) in
        (λ q. ap2 (λ a b. a && not b) (one.0 q) (other.0 q), ap2 (λ a b. a ++ b) one.1 other.1)
    of-set (find m filters) env h =
        let all = of-filters filters m env h in
        (λ q. found q all.0, all.1)
      where
        found : (q : Principal) → ((id : ℕ) → list_any (λ i. i == id) (ids_of d m) ≡ true → meets d env m filters id ≡ meets e env m filters id)
            → (is_among m (ids_of d m) q && meets d env m filters (id_of_record q)) ≡ (is_among m (ids_of e m) q && meets e env m filters (id_of_record q))
        found (Static n) same = refl
        found (Rec n id) same =
            (elim (n == m) as (λ (b : Bool). ((b && list_any (λ i. i == id) (ids_of d m)) && meets d env m filters id) ≡ ((b && list_any (λ i. i == id) (ids_of d m)) && meets e env m filters id)) [
              | true ↦
                  elim (list_any (λ i. i == id) (ids_of d m)) as (λ (b : Bool). list_any (λ i. i == id) (ids_of d m) ≡ b → (b && meets d env m filters id) ≡ (b && meets e env m filters id)) [
                    | true ↦ λ there. same id there
                    | false ↦ λ there. refl
                  ] refl
              | false ↦ refl
            ]) ∙ ap (λ is. is_among m is (Rec n id) && meets e env m filters id) (ids m)
    of-set (path m x) env h = let one = of-expr x env h in (λ q. ap (λ v. is_among m (set_of v) q) one.0, one.1)
    of-set (mapped set n name m x) env h =
        let one = of-set set env (all-front P (set_touched d env set) _ h) in
        let rest = all-back P (set_touched d env set) _ h in
        let cells : ℕ → List Cell = λ y. touched d (env ++ Id y ∷ []) x in
        let cells' : ℕ → List Cell = λ y. touched e (env ++ Id y ∷ []) x in (
          λ q.
              any-each P (λ y. member d env set (Rec n y)) (λ y. member e env set (Rec n y)) (λ y. one.0 (Rec n y)) cells cells'
              (λ y. is_record m (value_of d (env ++ Id y ∷ []) x) q) (λ y. is_record m (value_of e (env ++ Id y ∷ []) x) q)
              (λ y k. ap (λ v. is_record m v q) (of-expr x (env ++ Id y ∷ []) k).0) (ids_of d n) rest
              ∙ ap (list_any (λ y. member e env set (Rec n y) && is_record m (value_of e (env ++ Id y ∷ []) x) q)) (ids n),
          ap2 (λ a b. a ++ b) one.1
              (flat-each P (λ y. member d env set (Rec n y)) (λ y. member e env set (Rec n y)) (λ y. one.0 (Rec n y)) cells cells'
              (λ y k. (of-expr x (env ++ Id y ∷ []) k).1) (ids_of d n) rest
              ∙ ap (flat_map (λ y. if member e env set (Rec n y) then cells' y else [])) (ids n)),
        )
    of-set (flat_mapped set n name body) env h =
        let one = of-set set env (all-front P (set_touched d env set) _ h) in
        let rest = all-back P (set_touched d env set) _ h in
        let cells : ℕ → List Cell = λ y. set_touched d (env ++ Id y ∷ []) body in
        let cells' : ℕ → List Cell = λ y. set_touched e (env ++ Id y ∷ []) body in (
          λ q.
              any-each P (λ y. member d env set (Rec n y)) (λ y. member e env set (Rec n y)) (λ y. one.0 (Rec n y)) cells cells'
              (λ y. member d (env ++ Id y ∷ []) body q) (λ y. member e (env ++ Id y ∷ []) body q)
              (λ y k. (of-set body (env ++ Id y ∷ []) k).0 q) (ids_of d n) rest
              ∙ ap (list_any (λ y. member e env set (Rec n y) && member e (env ++ Id y ∷ []) body q)) (ids n),
          ap2 (λ a b. a ++ b) one.1
              (flat-each P (λ y. member d env set (Rec n y)) (λ y. member e env set (Rec n y)) (λ y. one.0 (Rec n y)) cells cells'
              (λ y k. (of-set body (env ++ Id y ∷ []) k).1) (ids_of d n) rest
              ∙ ap (flat_map (λ y. if member e env set (Rec n y) then cells' y else [])) (ids n)),
        )
    of-set (if_set c x y) env h =
        let one = of-expr c env (all-front P (touched d env c) _ h) in
        let rest = all-back P (touched d env c) _ h in
        let taken_c : Bool = truth_of (value_of d env c) in
        let branch : (q : Principal) → Same (if taken_c then member d env x q else member d env y q) (if taken_c then member e env x q else member e env y q)
        (if taken_c then set_touched d env x else set_touched d env y) (if taken_c then set_touched e env x else set_touched e env y)
        = λ q. chosen P taken_c (member d env x q) (member e env x q) (member d env y q) (member e env y q)
        (set_touched d env x) (set_touched e env x) (set_touched d env y) (set_touched e env y)
        (λ k. ((of-set x env k).0 q, (of-set x env k).1)) (λ k. ((of-set y env k).0 q, (of-set y env k).1)) rest in (
          λ q. (branch q).0 ∙ ap (λ v. if truth_of v then member e env x q else member e env y q) one.0,
          ap2 (λ a b. a ++ b) one.1 ((branch (Static 0)).1 ∙ ap (λ v. if truth_of v then set_touched e env x else set_touched e env y) one.0),
        )
    of-set (match_set x y name z) env h =
        let one = of-expr x env (all-front P (touched d env x) _ h) in
        let rest = all-back P (touched d env x) _ h in
        let branch : (q : Principal) → Same (taken_apart (value_of d env x) (member d env y q) (λ v. member d (env ++ v ∷ []) z q))
        (taken_apart (value_of d env x) (member e env y q) (λ v. member e (env ++ v ∷ []) z q))
        (taken_apart (value_of d env x) (set_touched d env y) (λ v. set_touched d (env ++ v ∷ []) z))
        (taken_apart (value_of d env x) (set_touched e env y) (λ v. set_touched e (env ++ v ∷ []) z))
        = λ q. taken P (value_of d env x) (member d env y q) (member e env y q) (λ v. member d (env ++ v ∷ []) z q) (λ v. member e (env ++ v ∷ []) z q)
        (set_touched d env y) (set_touched e env y) (λ v. set_touched d (env ++ v ∷ []) z) (λ v. set_touched e (env ++ v ∷ []) z)
        (λ k. ((of-set y env k).0 q, (of-set y env k).1)) (λ v k. ((of-set z (env ++ v ∷ []) k).0 q, (of-set z (env ++ v ∷ []) k).1)) rest in (
          λ q. (branch q).0 ∙ ap (λ u. taken_apart u (member e env y q) (λ v. member e (env ++ v ∷ []) z q)) one.0,
          ap2 (λ a b. a ++ b) one.1 ((branch (Static 0)).1 ∙ ap (λ u. taken_apart u (set_touched e env y) (λ v. set_touched e (env ++ v ∷ []) z)) one.0),
        )

    of-items : (x : Items) (env : Env) → AreSameCells d e (items_touched d env x)
        → ((q : Principal) → is_listed d env x q ≡ is_listed e env x q) × (items_touched d env x ≡ items_touched e env x)
    of-items no_items env h = (λ q. refl, refl)
    of-items (static_item n items) env h = let one = of-items items env h in (λ q. ap (λ b. is_static n q || b) (one.0 q), one.1)
    of-items (record_item m x items) env h =
        let one = of-expr x env (all-front P (touched d env x) _ h) in
        let other = of-items items env (all-back P (touched d env x) _ h) in
        (λ q. ap2 (λ v b. is_record m v q || b) one.0 (other.0 q), ap2 (λ a b. a ++ b) one.1 other.1)

    of-filters : (x : Filters) (m : ℕ) (env : Env) → AreSameCells d e (filters_touched d env m x)
        → ((id : ℕ) → list_any (λ i. i == id) (ids_of d m) ≡ true → meets d env m x id ≡ meets e env m x id) × (filters_touched d env m x ≡ filters_touched e env m x)
    of-filters no_filters m env h = (λ id there. refl, refl)
    of-filters (filter_and f op x filters) m env h =
        let cells : List Cell = map (λ i. record { model = m; id = i; field = f }) (ids_of d m) in
        let first = all-front P (touched d env x ++ cells) (filters_touched d env m filters) h in
        let one = of-expr x env (all-front P (touched d env x) cells first) in
        let at = all-back P (touched d env x) cells first in
        let other = of-filters filters m env (all-back P (touched d env x ++ cells) (filters_touched d env m filters) h) in (
          λ id there.
              ap (λ held. passes op held (value_of d env x) && meets d env m filters id) (cell-among P m f id (ids_of d m) at there)
              ∙ ap2 (λ v b. passes op (field_at e m id f) v && b) one.0 (other.0 id there),
          ap2 (λ a b. a ++ b) (ap2 (λ a b. a ++ b) one.1 (ap (map (λ i. record { model = m; id = i; field = f })) (ids m))) other.1,
        )

  of-init : (init : Init) (id : ℕ) → AreSameCells d e (init_touched d init id) → Same (init_value d init id) (init_value e init id) (init_touched d init id) (init_touched e init id)
  of-init (plain x) id h = of-expr x (Id id ∷ []) h
  of-init (of_set m set) id h =
      let one = of-set set (Id id ∷ []) h in (
        ap (λ is. Ids (filter (λ y. member d (Id id ∷ []) set (Rec m y)) is)) (ids m)
            ∙ ap (λ is. Ids is) (filter-same _ _ (ids_of e m) (λ y. one.0 (Rec m y))),
        one.1,
      )

pub settles : TouchedSettlesAll
settles d e ids = record {
  of_expr = λ env x h. of-expr d e ids x env h;
  of_set = λ env x h. of-set d e ids x env h;
  of_init = λ init id h. of-init d e ids init id h;
}
