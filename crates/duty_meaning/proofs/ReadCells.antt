-- What a use reads is touched, and is of the field of the use.
use Rattle.std.proofs.Common.{◌≡◌, ℕ, ◌-◌, Bool, true, false, ◌||◌, List, [], ◌∷◌, ◌++◌, length, refl, ap, sym, ◌∙◌}
use Rattle.std.specs.Prelude.{map, nat_lt, if◌then◌else◌}
use Rattle.std.specs.List.{list_any, flat_map}
use Rattle.std.proofs.lemmas.List.Folds.{list_any-append}
use Rattle.text_tree.specs.declared.exprs.CmpOp.{CmpOp}
use Rattle.text_tree.specs.declared.exprs.CmpOp.TheVariants.{Eq, Ne, Lt, Le, Gt, Ge}
use Rattle.type_schema.specs.Trees.{Expr, flag, num, str, var, nothing, just, get, equal, iff, less, within, negation, both, either, if_expr, match_expr, SetExpr, everyone, nobody, listed, union, minus, find, path, mapped, flat_mapped, if_set, match_set, Items, no_items, static_item, record_item, Filters, no_filters, filter_and, Init, plain, of_set}
use Rattle.type_schema.specs.Uses.{uses_of, set_uses_of}
use Rattle.data_meaning.specs.declared.principals.Principal.TheVariants.{Rec}
use Rattle.data_meaning.specs.Values.{Value, Flag, Num, Str, Id, Ids, Nothing, Just}
use Rattle.data_meaning.specs.Database.{Database, ids_of}
use Rattle.data_meaning.specs.declared.cells.Cell.{Cell}
use Rattle.data_meaning.specs.Meaning.{Env, truth_of, id_of, taken_apart, value_of, member}
use Rattle.data_meaning.specs.Touched.{touched, set_touched, items_touched, filters_touched, init_touched}
use Rattle.duty_meaning.specs.Reach.{in_parts, sides}
use Rattle.duty_meaning.specs.Reads.{read_by, set_read_by, items_read_by, filters_read_by, init_read_by}

module _ (T : Cell → Bool) where
  -- some cell passes the test
  abbrev pub Any : List Cell → Type 0
  Any cells = list_any T cells ≡ true

  any-left : (xs ys : List Cell) → Any xs → Any (xs ++ ys)
  any-left xs ys h = list_any-append T xs ys ∙ ap (λ t. t || list_any T ys) h

  any-right : (xs ys : List Cell) → Any ys → Any (xs ++ ys)
  any-right xs ys h = list_any-append T xs ys ∙ or-right (list_any T xs) (list_any T ys) h
    where
      or-right : (a b : Bool) → b ≡ true → (a || b) ≡ true
      or-right true b e = refl
      or-right false b e = e

  pub part : {G : Type 0} (count : ℕ) (f g : ℕ → List Cell) (n : ℕ) → ((n : ℕ) → Any (f n) → G) → ((n : ℕ) → Any (g n) → G) → Any (in_parts count f g n) → G
  part {G} count f g n left right h =
      elim (nat_lt n count) as (λ (t : Bool). Any (if t then f n else g (n - count)) → G) [
        | true ↦ λ k. left n k
        | false ↦ λ k. right (n - count) k
      ] h

  pub side : {G : Type 0} (op : CmpOp) (i j : ℕ) (f g : ℕ → List Cell) (n : ℕ) → ((n : ℕ) → Any (f n) → G) → ((n : ℕ) → Any (g n) → G) → Any (sides op i j f g n) → G
  side {G} Eq i j f g n left right h = part {G = G} i f g n left right h
  side {G} Ne i j f g n left right h = part {G = G} i f g n left right h
  side {G} Lt i j f g n left right h = part {G = G} i f g n left right h
  side {G} Le i j f g n left right h = part {G = G} j g f n right left h
  side {G} Gt i j f g n left right h = part {G = G} j g f n right left h
  side {G} Ge i j f g n left right h = part {G = G} i f g n left right h

  if-first : (x : Bool) (xs ys zs : List Cell) → (Any xs → Any ys) → Any (if x then xs else []) → Any (if x then ys else zs)
  if-first true xs ys zs k h = k h
  if-first false xs ys zs k h = cc

  if-second : (x : Bool) (xs ys zs : List Cell) → (Any xs → Any zs) → Any (if x then [] else xs) → Any (if x then ys else zs)
  if-second true xs ys zs k h = cc
  if-second false xs ys zs k h = k h

  for-none : (v : Value) (xs ys : List Cell) (zs : Value → List Cell) → (Any xs → Any ys) → Any (taken_apart v xs (λ w. [])) → Any (taken_apart v ys zs)
  for-none (Flag b) xs ys zs k h = k h
  for-none (Num n) xs ys zs k h = k h
  for-none (Str bytes) xs ys zs k h = k h
  for-none (Id id) xs ys zs k h = k h
  for-none (Ids ids) xs ys zs k h = k h
  for-none Nothing xs ys zs k h = k h
  for-none (Just w) xs ys zs k h = cc

  for-some : (v : Value) (xs : Value → List Cell) (ys : List Cell) (zs : Value → List Cell) → ((w : Value) → Any (xs w) → Any (zs w)) → Any (taken_apart v [] xs) → Any (taken_apart v ys zs)
  for-some (Flag b) xs ys zs k h = cc
  for-some (Num n) xs ys zs k h = cc
  for-some (Str bytes) xs ys zs k h = cc
  for-some (Id id) xs ys zs k h = cc
  for-some (Ids ids) xs ys zs k h = cc
  for-some Nothing xs ys zs k h = cc
  for-some (Just w) xs ys zs k h = k w h

  for-each : (G K : ℕ → List Cell) (ids : List ℕ) → ((y : ℕ) → Any (G y) → Any (K y)) → Any (flat_map G ids) → Any (flat_map K ids)
  for-each G K [] k h = h
  for-each G K (y ∷ ids) k h =
      elim (list_any T (G y)) as (λ (t : Bool). list_any T (G y) ≡ t → (t || list_any T (flat_map G ids)) ≡ true → Any (K y ++ flat_map K ids)) [
        | true ↦ λ here e. any-left (K y) (flat_map K ids) (k y here)
        | false ↦ λ here e. any-right (K y) (flat_map K ids) (for-each G K ids k e)
      ] refl (sym (list_any-append T (G y) (flat_map G ids)) ∙ h)

  module _ (d : Database) where
    mutual
      touches : (x : Expr) (env : Env) (n : ℕ) → Any (read_by d env x n) → Any (touched d env x)
      touches (flag b) env n h = h
      touches (num k) env n h = h
      touches (str bytes) env n h = h
      touches (var depth name) env n h = h
      touches nothing env n h = h
      touches (just x) env n h = touches x env n h
      touches (get x m f) env n h =
          let own : List Cell = (record { model = m; id = id_of (value_of d env x); field = f }) ∷ [] in
          part {G = Any (touched d env x ++ own)} (length (uses_of x)) (λ n. read_by d env x n) (λ n. own) n
          (λ n k. any-left (touched d env x) own (touches x env n k)) (λ n k. any-right (touched d env x) own k) h
      touches (equal x y op) env n h =
          part {G = Any (touched d env x ++ touched d env y)} (length (uses_of x)) (λ n. read_by d env x n) (λ n. read_by d env y n) n
          (λ n k. any-left (touched d env x) (touched d env y) (touches x env n k)) (λ n k. any-right (touched d env x) (touched d env y) (touches y env n k)) h
      touches (iff x y op) env n h =
          part {G = Any (touched d env x ++ touched d env y)} (length (uses_of x)) (λ n. read_by d env x n) (λ n. read_by d env y n) n
          (λ n k. any-left (touched d env x) (touched d env y) (touches x env n k)) (λ n k. any-right (touched d env x) (touched d env y) (touches y env n k)) h
      touches (less x y op) env n h =
          side {G = Any (touched d env x ++ touched d env y)} op (length (uses_of x)) (length (uses_of y)) (λ n. read_by d env x n) (λ n. read_by d env y n) n
          (λ n k. any-left (touched d env x) (touched d env y) (touches x env n k)) (λ n k. any-right (touched d env x) (touched d env y) (touches y env n k)) h
      touches (within x m set) env n h =
          part {G = Any (touched d env x ++ set_touched d env set)} (length (uses_of x)) (λ n. read_by d env x n) (λ n. set_read_by d env set n) n
          (λ n k. any-left (touched d env x) (set_touched d env set) (touches x env n k)) (λ n k. any-right (touched d env x) (set_touched d env set) (set-touches set env n k)) h
      touches (negation x) env n h = touches x env n h
      touches (both x y) env n h =
          part {G = Any (touched d env x ++ touched d env y)} (length (uses_of x)) (λ n. read_by d env x n) (λ n. read_by d env y n) n
          (λ n k. any-left (touched d env x) (touched d env y) (touches x env n k)) (λ n k. any-right (touched d env x) (touched d env y) (touches y env n k)) h
      touches (either x y) env n h =
          part {G = Any (touched d env x ++ touched d env y)} (length (uses_of x)) (λ n. read_by d env x n) (λ n. read_by d env y n) n
          (λ n k. any-left (touched d env x) (touched d env y) (touches x env n k)) (λ n k. any-right (touched d env x) (touched d env y) (touches y env n k)) h
      touches (if_expr c x y) env n h =
          let taken : Bool = truth_of (value_of d env c) in
          let all : List Cell = if taken then touched d env x else touched d env y in
          let f : ℕ → List Cell = λ n. if taken then read_by d env x n else [] in
          let g : ℕ → List Cell = λ n. if taken then [] else read_by d env y n in
          part {G = Any (touched d env c ++ all)} (length (uses_of c)) (λ n. read_by d env c n) (in_parts (length (uses_of x)) f g) n
          (λ n k. any-left (touched d env c) all (touches c env n k))
          (λ n k. any-right (touched d env c) all (part {G = Any all} (length (uses_of x)) f g n
          (λ n k. if-first taken (read_by d env x n) (touched d env x) (touched d env y) (λ k. touches x env n k) k)
          (λ n k. if-second taken (read_by d env y n) (touched d env x) (touched d env y) (λ k. touches y env n k) k) k)) h
      touches (match_expr x y name c) env n h =
          let v : Value = value_of d env x in
          let more : Value → List Cell = λ w. touched d (env ++ w ∷ []) c in
          let all : List Cell = taken_apart v (touched d env y) more in
          let f : ℕ → List Cell = λ n. taken_apart v (read_by d env y n) (λ w. []) in
          let g : ℕ → List Cell = λ n. taken_apart v [] (λ w. read_by d (env ++ w ∷ []) c n) in
          part {G = Any (touched d env x ++ all)} (length (uses_of x)) (λ n. read_by d env x n) (in_parts (length (uses_of y)) f g) n
          (λ n k. any-left (touched d env x) all (touches x env n k))
          (λ n k. any-right (touched d env x) all (part {G = Any all} (length (uses_of y)) f g n
          (λ n k. for-none v (read_by d env y n) (touched d env y) more (λ k. touches y env n k) k)
          (λ n k. for-some v (λ w. read_by d (env ++ w ∷ []) c n) (touched d env y) more (λ w k. touches c (env ++ w ∷ []) n k) k) k)) h

      set-touches : (x : SetExpr) (env : Env) (n : ℕ) → Any (set_read_by d env x n) → Any (set_touched d env x)
      set-touches everyone env n h = h
      set-touches nobody env n h = h
      set-touches (listed items) env n h = items-touches items env n h
      set-touches (union x y) env n h =
          part {G = Any (set_touched d env x ++ set_touched d env y)} (length (set_uses_of x)) (λ n. set_read_by d env x n) (λ n. set_read_by d env y n) n
          (λ n k. any-left (set_touched d env x) (set_touched d env y) (set-touches x env n k)) (λ n k. any-right (set_touched d env x) (set_touched d env y) (set-touches y env n k)) h
      set-touches (minus x y) env n h =
          part {G = Any (set_touched d env x ++ set_touched d env y)} (length (set_uses_of x)) (λ n. set_read_by d env x n) (λ n. set_read_by d env y n) n
          (λ n k. any-left (set_touched d env x) (set_touched d env y) (set-touches x env n k)) (λ n k. any-right (set_touched d env x) (set_touched d env y) (set-touches y env n k)) h
      set-touches (find m filters) env n h = filters-touch filters env m n h
      set-touches (path m x) env n h = touches x env n h
      set-touches (mapped set k name m x) env n h =
          let K : ℕ → List Cell = λ y. if member d env set (Rec k y) then touched d (env ++ Id y ∷ []) x else [] in
          let G : ℕ → ℕ → List Cell = λ n y. if member d env set (Rec k y) then read_by d (env ++ Id y ∷ []) x n else [] in
          part {G = Any (set_touched d env set ++ flat_map K (ids_of d k))} (length (set_uses_of set)) (λ n. set_read_by d env set n) (λ n. flat_map (G n) (ids_of d k)) n
          (λ n j. any-left (set_touched d env set) (flat_map K (ids_of d k)) (set-touches set env n j))
          (λ n j. any-right (set_touched d env set) (flat_map K (ids_of d k)) (for-each (G n) K (ids_of d k)
          (λ y i. if-first (member d env set (Rec k y)) (read_by d (env ++ Id y ∷ []) x n) (touched d (env ++ Id y ∷ []) x) [] (λ i. touches x (env ++ Id y ∷ []) n i) i) j)) h
      set-touches (flat_mapped set k name body) env n h =
          let K : ℕ → List Cell = λ y. if member d env set (Rec k y) then set_touched d (env ++ Id y ∷ []) body else [] in
          let G : ℕ → ℕ → List Cell = λ n y. if member d env set (Rec k y) then set_read_by d (env ++ Id y ∷ []) body n else [] in
          part {G = Any (set_touched d env set ++ flat_map K (ids_of d k))} (length (set_uses_of set)) (λ n. set_read_by d env set n) (λ n. flat_map (G n) (ids_of d k)) n
          (λ n j. any-left (set_touched d env set) (flat_map K (ids_of d k)) (set-touches set env n j))
          (λ n j. any-right (set_touched d env set) (flat_map K (ids_of d k)) (for-each (G n) K (ids_of d k)
          (λ y i. if-first (member d env set (Rec k y)) (set_read_by d (env ++ Id y ∷ []) body n) (set_touched d (env ++ Id y ∷ []) body) [] (λ i. set-touches body (env ++ Id y ∷ []) n i) i) j)) h
      set-touches (if_set c x y) env n h =
          let taken : Bool = truth_of (value_of d env c) in
          let all : List Cell = if taken then set_touched d env x else set_touched d env y in
          let f : ℕ → List Cell = λ n. if taken then set_read_by d env x n else [] in
          let g : ℕ → List Cell = λ n. if taken then [] else set_read_by d env y n in
          part {G = Any (touched d env c ++ all)} (length (uses_of c)) (λ n. read_by d env c n) (in_parts (length (set_uses_of x)) f g) n
          (λ n k. any-left (touched d env c) all (touches c env n k))
          (λ n k. any-right (touched d env c) all (part {G = Any all} (length (set_uses_of x)) f g n
          (λ n k. if-first taken (set_read_by d env x n) (set_touched d env x) (set_touched d env y) (λ k. set-touches x env n k) k)
          (λ n k. if-second taken (set_read_by d env y n) (set_touched d env x) (set_touched d env y) (λ k. set-touches y env n k) k) k)) h
      set-touches (match_set x y name c) env n h =
          let v : Value = value_of d env x in
          let more : Value → List Cell = λ w. set_touched d (env ++ w ∷ []) c in
          let all : List Cell = taken_apart v (set_touched d env y) more in
          let f : ℕ → List Cell = λ n. taken_apart v (set_read_by d env y n) (λ w. []) in
          let g : ℕ → List Cell = λ n. taken_apart v [] (λ w. set_read_by d (env ++ w ∷ []) c n) in
          part {G = Any (touched d env x ++ all)} (length (uses_of x)) (λ n. read_by d env x n) (in_parts (length (set_uses_of y)) f g) n
          (λ n k. any-left (touched d env x) all (touches x env n k))
          (λ n k. any-right (touched d env x) all (part {G = Any all} (length (set_uses_of y)) f g n
          (λ n k. for-none v (set_read_by d env y n) (set_touched d env y) more (λ k. set-touches y env n k) k)
          (λ n k. for-some v (λ w. set_read_by d (env ++ w ∷ []) c n) (set_touched d env y) more (λ w k. set-touches c (env ++ w ∷ []) n k) k) k)) h

      items-touches : (x : Items) (env : Env) (n : ℕ) → Any (items_read_by d env x n) → Any (items_touched d env x)
      items-touches no_items env n h = h
      items-touches (static_item k items) env n h = items-touches items env n h
      items-touches (record_item m x items) env n h =
          part {G = Any (touched d env x ++ items_touched d env items)} (length (uses_of x)) (λ n. read_by d env x n) (λ n. items_read_by d env items n) n
          (λ n k. any-left (touched d env x) (items_touched d env items) (touches x env n k)) (λ n k. any-right (touched d env x) (items_touched d env items) (items-touches items env n k)) h

      filters-touch : (x : Filters) (env : Env) (m n : ℕ) → Any (filters_read_by d env m x n) → Any (filters_touched d env m x)
      filters-touch no_filters env m n h = h
      filters-touch (filter_and f op x filters) env m n h =
          let own : List Cell = map (λ id. record { model = m; id = id; field = f }) (ids_of d m) in
          let rest : List Cell = filters_touched d env m filters in
          part {G = Any ((touched d env x ++ own) ++ rest)} (length (uses_of x)) (λ n. read_by d env x n) (in_parts 1 (λ n. own) (λ n. filters_read_by d env m filters n)) n
          (λ n k. any-left (touched d env x ++ own) rest (any-left (touched d env x) own (touches x env n k)))
          (λ n k. part {G = Any ((touched d env x ++ own) ++ rest)} 1 (λ n. own) (λ n. filters_read_by d env m filters n) n
          (λ n k. any-left (touched d env x ++ own) rest (any-right (touched d env x) own k))
          (λ n k. any-right (touched d env x ++ own) rest (filters-touch filters env m n k)) k) h

    pub init-touches : (init : Init) (id n : ℕ) → Any (init_read_by d init id n) → Any (init_touched d init id)
    init-touches (plain x) id n h = touches x (Id id ∷ []) n h
    init-touches (of_set m set) id n h = set-touches set (Id id ∷ []) n h
