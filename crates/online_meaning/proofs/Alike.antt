-- Databases that agree on the fields that are used, and on the models of a schema.
use Rattle.std.proofs.Common.{◌≡◌, ℕ, Bool, not, ◌&&◌, ◌||◌, List, [], ◌∷◌, ◌++◌, refl, ap, ◌∙◌, subst, cond, map}
use Rattle.std.specs.Prelude.{Some, if◌then◌else◌, filter}
use Rattle.std.specs.List.{list_any, flat_map, AllByRecursion}
use Rattle.type_schema.specs.declared.types.TTy.{TTy}
use Rattle.type_schema.specs.Trees.{Expr, flag, num, str, var, nothing, just, get, equal, iff, less, within, negation, both, either, if_expr, match_expr, SetExpr, everyone, nobody, listed, union, minus, find, path, mapped, flat_mapped, if_set, match_set, Items, no_items, static_item, record_item, Filters, no_filters, filter_and, Init, plain, of_set}
use Rattle.type_schema.specs.Schema.{Schema, type_of}
use Rattle.type_schema.specs.Typing.{HasModel, Scope, Content, IsExpr, IsSet, AreItems, AreFilters, IsInit, IsType}
use Rattle.type_schema.specs.Uses.{Use, uses_of, set_uses_of, item_uses_of, filter_uses_of, init_uses_of}
use Rattle.data_meaning.specs.declared.principals.Principal.{Principal}
use Rattle.data_meaning.specs.declared.principals.Principal.TheVariants.{Rec}
use Rattle.data_meaning.specs.Values.{Value, Flag, Num, Str, Id, Ids, Nothing, Just}
use Rattle.data_meaning.specs.Database.{Database, ids_of, field_at}
use Rattle.data_meaning.specs.declared.cells.Cell.{Cell}
use Rattle.data_meaning.specs.Meaning.{Env, truth_of, id_of, set_of, are_equal, same_truth, is_less, passes, taken_apart, is_record, is_among, is_static, id_of_record, value_of, member, is_listed, meets}
use Rattle.data_meaning.specs.Touched.{touched, set_touched, items_touched, filters_touched, init_touched}
use Rattle.data_meaning.specs.Run.{init_value}
use Rattle.data_meaning.proofs.Agreement.{ap2, any-same}
use Rattle.data_meaning.proofs.Carried.{all-front, all-behind}
use Rattle.online_meaning.proofs.Ranges.{every, flat-same}
use Rattle.online_meaning.proofs.Touching.{sides}

-- two equal values, and two equal lists of cells
abbrev Same : {A : Type 0} → A → A → List Cell → List Cell → Type 0
Same v w xs ys = (v ≡ w) × (xs ≡ ys)

-- the branch of a `match`
taken-same : {A : Type 0} (v : Value) (x x' : A) (k k' : Value → A) → x ≡ x' → ((w : Value) → k w ≡ k' w) → taken_apart v x k ≡ taken_apart v x' k'
taken-same (Flag b) x x' k k' p q = p
taken-same (Num n) x x' k k' p q = p
taken-same (Str bytes) x x' k k' p q = p
taken-same (Id id) x x' k k' p q = p
taken-same (Ids ids) x x' k k' p q = p
taken-same Nothing x x' k k' p q = p
taken-same (Just w) x x' k k' p q = q w

filter-same : (p q : ℕ → Bool) (xs : List ℕ) → ((x : ℕ) → p x ≡ q x) → filter p xs ≡ filter q xs
filter-same p q [] same = refl
filter-same p q (x ∷ xs) same = ap2 (λ b ys. cond b (x ∷ ys) ys) (same x) (filter-same p q xs same)

-- fields of some kind hold the same in all records, and models have the same records
module _ (s : Schema) (d e : Database) (models : (m : ℕ) → HasModel s m → ids_of d m ≡ ids_of e m) (IsSameField : Use → Type 0)
    (fields : (m f : ℕ) (ty : TTy) → type_of s m f ≡ Some ty → IsSameField (record { model = m; field = f }) → (id : ℕ) → field_at d m id f ≡ field_at e m id f) where
  abbrev AreSameFields : List Use → Type 0
  AreSameFields us = AllByRecursion IsSameField us

  mutual
    expr-alike : (x : Expr) (scope : Scope) (t : TTy) → IsExpr s scope t x → AreSameFields (uses_of x) → (env : Env)
        → Same (value_of d env x) (value_of e env x) (touched d env x) (touched e env x)
    expr-alike (flag b) scope t h u env = (refl, refl)
    expr-alike (num n) scope t h u env = (refl, refl)
    expr-alike (str bytes) scope t h u env = (refl, refl)
    expr-alike (var depth name) scope t h u env = (refl, refl)
    expr-alike nothing scope t h u env = (refl, refl)
    expr-alike (just x) scope t h u env = let one = expr-alike x scope _ h.2 u env in (ap (λ v. Just v) one.0, one.1)
    expr-alike (get x m f) scope t h u env =
        let one = expr-alike x scope _ h.1 (all-front IsSameField (uses_of x) _ u) env in
        let here = fields m f t h.0 (all-behind IsSameField (uses_of x) _ u).0 in
        (here (id_of (value_of d env x)) ∙ ap (λ v. field_at e m (id_of v) f) one.0, ap2 (λ cells v. cells ++ (record { model = m; id = id_of v; field = f }) ∷ []) one.1 one.0)
    expr-alike (equal x y op) scope t h u env =
        let one = expr-alike x scope _ h.1.2 (all-front IsSameField (uses_of x) _ u) env in
        let other = expr-alike y scope _ h.1.3 (all-behind IsSameField (uses_of x) _ u) env in
        (ap2 (λ v w. Flag (are_equal v w)) one.0 other.0, ap2 (λ a b. a ++ b) one.1 other.1)
    expr-alike (iff x y op) scope t h u env =
        let one = expr-alike x scope _ h.1 (all-front IsSameField (uses_of x) _ u) env in
        let other = expr-alike y scope _ h.2 (all-behind IsSameField (uses_of x) _ u) env in
        (ap2 (λ v w. Flag (same_truth (truth_of v) (truth_of w))) one.0 other.0, ap2 (λ a b. a ++ b) one.1 other.1)
    expr-alike (less x y op) scope t h u env =
        let two = sides IsSameField op (uses_of x) (uses_of y) u in
        let one = expr-alike x scope _ h.1 two.0 env in
        let other = expr-alike y scope _ h.2 two.1 env in
        (ap2 (λ v w. Flag (is_less v w)) one.0 other.0, ap2 (λ a b. a ++ b) one.1 other.1)
    expr-alike (within x m set) scope t h u env =
        let one = expr-alike x scope _ h.1 (all-front IsSameField (uses_of x) _ u) env in
        let other = set-alike set scope _ h.2 (all-behind IsSameField (uses_of x) _ u) env in
        (ap (λ b. Flag b) (other.0 (Rec m (id_of (value_of d env x)))) ∙ ap (λ v. Flag (member e env set (Rec m (id_of v)))) one.0, ap2 (λ a b. a ++ b) one.1 other.1)
    expr-alike (negation x) scope t h u env = let one = expr-alike x scope _ h.1 u env in (ap (λ v. Flag (not (truth_of v))) one.0, one.1)
    expr-alike (both x y) scope t h u env =
        let one = expr-alike x scope _ h.1 (all-front IsSameField (uses_of x) _ u) env in
        let other = expr-alike y scope _ h.2 (all-behind IsSameField (uses_of x) _ u) env in
        (ap2 (λ v w. Flag (truth_of v && truth_of w)) one.0 other.0, ap2 (λ a b. a ++ b) one.1 other.1)
    expr-alike (either x y) scope t h u env =
        let one = expr-alike x scope _ h.1 (all-front IsSameField (uses_of x) _ u) env in
        let other = expr-alike y scope _ h.2 (all-behind IsSameField (uses_of x) _ u) env in
        (ap2 (λ v w. Flag (truth_of v || truth_of w)) one.0 other.0, ap2 (λ a b. a ++ b) one.1 other.1)
    expr-alike (if_expr c x y) scope t h u env =
        let first = all-front IsSameField (uses_of c ++ uses_of x) (uses_of y) u in
        let one = expr-alike c scope _ h.0 (all-front IsSameField (uses_of c) (uses_of x) first) env in
        let left = expr-alike x scope t h.1 (all-behind IsSameField (uses_of c) (uses_of x) first) env in
        let right = expr-alike y scope t h.2 (all-behind IsSameField (uses_of c ++ uses_of x) (uses_of y) u) env in (
          ap (λ v. if truth_of v then value_of d env x else value_of d env y) one.0 ∙ ap2 (λ v w. if truth_of (value_of e env c) then v else w) left.0 right.0,
          ap2 (λ a b. a ++ b) one.1
              (ap (λ v. if truth_of v then touched d env x else touched d env y) one.0 ∙ ap2 (λ v w. if truth_of (value_of e env c) then v else w) left.1 right.1),
        )
    expr-alike (match_expr x y name z) scope t h u env =
        let first = all-front IsSameField (uses_of x ++ uses_of y) (uses_of z) u in
        let one = expr-alike x scope _ h.1 (all-front IsSameField (uses_of x) (uses_of y) first) env in
        let none = expr-alike y scope t h.2 (all-behind IsSameField (uses_of x) (uses_of y) first) env in
        let some = λ (v : Value). expr-alike z _ t h.3 (all-behind IsSameField (uses_of x ++ uses_of y) (uses_of z) u) (env ++ v ∷ []) in (
          ap (λ v. taken_apart v (value_of d env y) (λ w. value_of d (env ++ w ∷ []) z)) one.0 ∙ taken-same (value_of e env x) _ _ _ _ none.0 (λ w. (some w).0),
          ap2 (λ a b. a ++ b) one.1
              (ap (λ v. taken_apart v (touched d env y) (λ w. touched d (env ++ w ∷ []) z)) one.0 ∙ taken-same (value_of e env x) _ _ _ _ none.1 (λ w. (some w).1)),
        )

    set-alike : (x : SetExpr) (scope : Scope) (w : Content) → IsSet s scope w x → AreSameFields (set_uses_of x) → (env : Env)
        → ((q : Principal) → member d env x q ≡ member e env x q) × (set_touched d env x ≡ set_touched e env x)
    set-alike everyone scope w h u env = (λ q. refl, refl)
    set-alike nobody scope w h u env = (λ q. refl, refl)
    set-alike (listed items) scope w h u env = items-alike items scope w h u env
    set-alike (union x y) scope w h u env =
        let one = set-alike x scope w h.0 (all-front IsSameField (set_uses_of x) _ u) env in
        let other = set-alike y scope w h.1 (all-behind IsSameField (set_uses_of x) _ u) env in
        (λ q. ap2 (λ a b. a || b) (one.0 q) (other.0 q), ap2 (λ a b. a ++ b) one.1 other.1)
    set-alike (minus x y) scope w h u env =
        let one = set-alike x scope w h.0 (all-front IsSameField (set_uses_of x) _ u) env in
        let other = set-alike y scope w h.1 (all-behind IsSameField (set_uses_of x) _ u) env in
        (λ q. ap2 (λ a b. a && not b) (one.0 q) (other.0 q), ap2 (λ a b. a ++ b) one.1 other.1)
    set-alike (find m filters) scope w h u env =
        let all = filters-alike filters m scope (models m h.1) h.2 u env in
        (λ q. ap2 (λ a b. a && b) (ap (λ ids. is_among m ids q) (models m h.1)) (all.0 (id_of_record q)), all.1)
    set-alike (path m x) scope w h u env = let one = expr-alike x scope _ h.1 u env in (λ q. ap (λ v. is_among m (set_of v) q) one.0, one.1)
    set-alike (mapped set n name m x) scope w h u env =
        let one = set-alike set scope _ h.2 (all-front IsSameField (set_uses_of set) _ u) env in
        let at = λ (y : ℕ). expr-alike x _ _ h.3 (all-behind IsSameField (set_uses_of set) _ u) (env ++ Id y ∷ []) in (
          λ q.
              ap (list_any (λ y. member d env set (Rec n y) && is_record m (value_of d (env ++ Id y ∷ []) x) q)) (models n h.1)
              ∙ any-same _ _ (ids_of e n) (λ y. ap2 (λ a v. a && is_record m v q) (one.0 (Rec n y)) (at y).0),
          ap2 (λ a b. a ++ b) one.1
              (ap (flat_map (λ y. if member d env set (Rec n y) then touched d (env ++ Id y ∷ []) x else [])) (models n h.1)
              ∙ flat-same (λ y. if member d env set (Rec n y) then touched d (env ++ Id y ∷ []) x else []) (λ y. if member e env set (Rec n y) then touched e (env ++ Id y ∷ []) x else []) (ids_of e n)
              (every (λ y. (if member d env set (Rec n y) then touched d (env ++ Id y ∷ []) x else []) ≡ (if member e env set (Rec n y) then touched e (env ++ Id y ∷ []) x else []))
              (λ y. ap2 (λ b cells. if b then cells else []) (one.0 (Rec n y)) (at y).1) (ids_of e n))),
        )
    set-alike (flat_mapped set n name body) scope w h u env =
        let one = set-alike set scope _ h.1 (all-front IsSameField (set_uses_of set) _ u) env in
        let at = λ (y : ℕ). set-alike body _ w h.2 (all-behind IsSameField (set_uses_of set) _ u) (env ++ Id y ∷ []) in (
          λ q.
              ap (list_any (λ y. member d env set (Rec n y) && member d (env ++ Id y ∷ []) body q)) (models n h.0)
              ∙ any-same _ _ (ids_of e n) (λ y. ap2 (λ a b. a && b) (one.0 (Rec n y)) ((at y).0 q)),
          ap2 (λ a b. a ++ b) one.1
              (ap (flat_map (λ y. if member d env set (Rec n y) then set_touched d (env ++ Id y ∷ []) body else [])) (models n h.0)
              ∙ flat-same (λ y. if member d env set (Rec n y) then set_touched d (env ++ Id y ∷ []) body else [])
              (λ y. if member e env set (Rec n y) then set_touched e (env ++ Id y ∷ []) body else []) (ids_of e n)
              (every (λ y. (if member d env set (Rec n y) then set_touched d (env ++ Id y ∷ []) body else []) ≡ (if member e env set (Rec n y) then set_touched e (env ++ Id y ∷ []) body else []))
              (λ y. ap2 (λ b cells. if b then cells else []) (one.0 (Rec n y)) (at y).1) (ids_of e n))),
        )
    set-alike (if_set c x y) scope w h u env =
        let first = all-front IsSameField (uses_of c ++ set_uses_of x) (set_uses_of y) u in
        let one = expr-alike c scope _ h.0 (all-front IsSameField (uses_of c) (set_uses_of x) first) env in
        let left = set-alike x scope w h.1 (all-behind IsSameField (uses_of c) (set_uses_of x) first) env in
        let right = set-alike y scope w h.2 (all-behind IsSameField (uses_of c ++ set_uses_of x) (set_uses_of y) u) env in (
          λ q.
              ap (λ v. if truth_of v then member d env x q else member d env y q) one.0 ∙ ap2 (λ v w. if truth_of (value_of e env c) then v else w) (left.0 q) (right.0 q),
          ap2 (λ a b. a ++ b) one.1
              (ap (λ v. if truth_of v then set_touched d env x else set_touched d env y) one.0 ∙ ap2 (λ v w. if truth_of (value_of e env c) then v else w) left.1 right.1),
        )
    set-alike (match_set x y name z) scope w h u env =
        let first = all-front IsSameField (uses_of x ++ set_uses_of y) (set_uses_of z) u in
        let one = expr-alike x scope _ h.1 (all-front IsSameField (uses_of x) (set_uses_of y) first) env in
        let none = set-alike y scope w h.2 (all-behind IsSameField (uses_of x) (set_uses_of y) first) env in
        let some = λ (v : Value). set-alike z _ w h.3 (all-behind IsSameField (uses_of x ++ set_uses_of y) (set_uses_of z) u) (env ++ v ∷ []) in (
          λ q.
              ap (λ v. taken_apart v (member d env y q) (λ k. member d (env ++ k ∷ []) z q)) one.0 ∙ taken-same (value_of e env x) _ _ _ _ (none.0 q) (λ k. (some k).0 q),
          ap2 (λ a b. a ++ b) one.1
              (ap (λ v. taken_apart v (set_touched d env y) (λ k. set_touched d (env ++ k ∷ []) z)) one.0 ∙ taken-same (value_of e env x) _ _ _ _ none.1 (λ k. (some k).1)),
        )

    items-alike : (x : Items) (scope : Scope) (w : Content) → AreItems s scope w x → AreSameFields (item_uses_of x) → (env : Env)
        → ((q : Principal) → is_listed d env x q ≡ is_listed e env x q) × (items_touched d env x ≡ items_touched e env x)
    items-alike no_items scope w h u env = (λ q. refl, refl)
    items-alike (static_item n items) scope w h u env =
        let one = items-alike items scope w h.2 u env in (λ q. ap (λ b. is_static n q || b) (one.0 q), one.1)
    items-alike (record_item m x items) scope w h u env =
        let one = expr-alike x scope _ h.1 (all-front IsSameField (uses_of x) _ u) env in
        let other = items-alike items scope w h.2 (all-behind IsSameField (uses_of x) _ u) env in
        (λ q. ap2 (λ v b. is_record m v q || b) one.0 (other.0 q), ap2 (λ a b. a ++ b) one.1 other.1)

    filters-alike : (x : Filters) (m : ℕ) (scope : Scope) → ids_of d m ≡ ids_of e m → AreFilters s scope m x → AreSameFields (filter_uses_of m x) → (env : Env)
        → ((id : ℕ) → meets d env m x id ≡ meets e env m x id) × (filters_touched d env m x ≡ filters_touched e env m x)
    filters-alike no_filters m scope ids h u env = (λ id. refl, refl)
    filters-alike (filter_and f op x filters) m scope ids h u env =
        let one = expr-alike x scope _ h.0.4 (all-front IsSameField (uses_of x) _ u) env in
        let later = all-behind IsSameField (uses_of x) _ u in
        let other = filters-alike filters m scope ids h.1 later.1 env in (
          λ id.
              ap (λ held. passes op held (value_of d env x) && meets d env m filters id) (fields m f h.0.0 h.0.2 later.0 id)
              ∙ ap2 (λ v b. passes op (field_at e m id f) v && b) one.0 (other.0 id),
          ap2 (λ a b. a ++ b) (ap2 (λ a b. a ++ b) one.1 (ap (map (λ i. record { model = m; id = i; field = f })) ids)) other.1,
        )

  pub init-alike : (m id : ℕ) (t : TTy) (init : Init) → IsType s t → IsInit s m t init → AreSameFields (init_uses_of init)
      → Same (init_value d init id) (init_value e init id) (init_touched d init id) (init_touched e init id)
  init-alike m id t (plain x) type h u = expr-alike x _ t h.1 u (Id id ∷ [])
  init-alike m id t (of_set n set) type h u =
      let one = set-alike set _ _ h.1 u (Id id ∷ []) in (
        ap (λ ids. Ids (filter (λ y. member d (Id id ∷ []) set (Rec n y)) ids)) (models n (subst (IsType s) h.0 type))
            ∙ ap (λ ids. Ids ids) (filter-same _ _ (ids_of e n) (λ y. one.0 (Rec n y))),
        one.1,
      )
