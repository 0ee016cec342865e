-- Each cell that is touched is read by one of the uses.
use Rattle.std.proofs.Common.{◌≡◌, ℕ, zero, suc, ◌+◌, ◌-◌, ◌≤◌, Bool, true, false, ◌||◌, List, [], ◌∷◌, ◌++◌, length, refl, ap, sym, ◌∙◌, subst, arith, inl, inr}
use Rattle.std.specs.Prelude.{Some, map, ◌==◌, slice_get, if◌then◌else◌}
use Rattle.std.specs.List.{list_any, flat_map}
use Rattle.std.proofs.lemmas.Bool.{eqb-true, lt-ltb, le-ltb}
use Rattle.std.proofs.lemmas.Option.{slice_get_within}
use Rattle.std.proofs.lemmas.List.{append_assoc}
use Rattle.std.proofs.lemmas.List.Folds.{list_any-append}
use Rattle.text_tree.specs.declared.exprs.CmpOp.{CmpOp}
use Rattle.text_tree.specs.declared.exprs.CmpOp.TheVariants.{Eq, Ne, Lt, Le, Gt, Ge}
use Rattle.type_schema.specs.Trees.{Expr, flag, num, str, var, nothing, just, get, equal, iff, less, within, negation, both, either, if_expr, match_expr, SetExpr, everyone, nobody, listed, union, minus, find, path, mapped, flat_mapped, if_set, match_set, Items, no_items, static_item, record_item, Filters, no_filters, filter_and, Init, plain, of_set}
use Rattle.type_schema.specs.Uses.{Use, in_order_of_text, uses_of, set_uses_of, item_uses_of, filter_uses_of, init_uses_of}
use Rattle.data_meaning.specs.declared.principals.Principal.TheVariants.{Rec}
use Rattle.data_meaning.specs.Values.{Value, Flag, Num, Str, Id, Ids, Nothing, Just}
use Rattle.data_meaning.specs.Database.{Database, ids_of}
use Rattle.data_meaning.specs.declared.cells.Cell.{Cell}
use Rattle.data_meaning.specs.Meaning.{Env, truth_of, id_of, taken_apart, value_of, member}
use Rattle.data_meaning.specs.Touched.{touched, set_touched, items_touched, filters_touched, init_touched}
use Rattle.data_meaning.proofs.Tests.{and-left, and-right, or-true}
use Rattle.duty_meaning.specs.Reach.{in_parts, sides}
use Rattle.duty_meaning.specs.Reads.{read_by, set_read_by, items_read_by, filters_read_by, init_read_by, UsesRead}
use Rattle.duty_meaning.specs.Flows.{cell_of}
use Rattle.duty_meaning.proofs.Signed.{or-false}
use Rattle.duty_meaning.proofs.ReadCells.{init-touches}
use Rattle.duty_meaning.proofs.Reached.{is_at}
use Rattle.duty_meaning.proofs.Flows.{at-cell, cell-at}

get-front : (us vs : List Use) (n : ℕ) (x : Use) → slice_get us n ≡ Some x → slice_get (us ++ vs) n ≡ Some x
get-front [] vs n x h = cc
get-front (u ∷ us) vs zero x h = h
get-front (u ∷ us) vs (suc n) x h = get-front us vs n x h

get-behind : (us vs : List Use) (n : ℕ) → slice_get (us ++ vs) (length us + n) ≡ slice_get vs n
get-behind [] vs n = let same : 0 + n ≡ n = omega arith in ap (slice_get vs) same
get-behind (u ∷ us) vs n = let same : suc (length us) + n ≡ suc (length us + n) = omega arith in ap (slice_get (u ∷ (us ++ vs))) same ∙ get-behind us vs n

module _ (T : Cell → Bool) where
  -- a use whose cells, as given by its number, have one that passes, which is of the field of the use
  record Found (us : List Use) (f : ℕ → List Cell) : Type 0 where
    number : ℕ
    used : Use
    at : slice_get us number ≡ Some used
    id : ℕ
    own : T (cell_of used id) ≡ true
    read : list_any T (f number) ≡ true

  found-front : (us vs : List Use) (f g : ℕ → List Cell) → Found us f → Found (us ++ vs) (in_parts (length us) f g)
  found-front us vs f g h =
      let less = slice_get_within us h.number h.used h.at in
      record {
        number = h.number;
        used = h.used;
        at = get-front us vs h.number h.used h.at;
        id = h.id;
        own = h.own;
        read = subst (λ (t : Bool). list_any T (if t then f h.number else g (h.number - length us)) ≡ true) (sym (lt-ltb h.number (length us) less)) h.read;
      }

  found-behind : (us vs : List Use) (f g : ℕ → List Cell) → Found vs g → Found (us ++ vs) (in_parts (length us) f g)
  found-behind us vs f g h =
      let late : length us ≤ length us + h.number = omega arith in
      let back : (length us + h.number) - length us ≡ h.number = omega arith in
      record {
        number = length us + h.number;
        used = h.used;
        at = get-behind us vs h.number ∙ h.at;
        id = h.id;
        own = h.own;
        read = subst (λ (t : Bool). list_any T (if t then f (length us + h.number) else g ((length us + h.number) - length us)) ≡ true)
            (sym (le-ltb (length us + h.number) (length us) late)) (ap (λ n. list_any T (g n)) back ∙ h.read);
      }

  side-first : (op : CmpOp) (us vs : List Use) (f g : ℕ → List Cell) → Found us f → Found (in_order_of_text op us vs) (sides op (length us) (length vs) f g)
  side-first Eq us vs f g h = found-front us vs f g h
  side-first Ne us vs f g h = found-front us vs f g h
  side-first Lt us vs f g h = found-front us vs f g h
  side-first Le us vs f g h = found-behind vs us g f h
  side-first Gt us vs f g h = found-behind vs us g f h
  side-first Ge us vs f g h = found-front us vs f g h

  side-second : (op : CmpOp) (us vs : List Use) (f g : ℕ → List Cell) → Found vs g → Found (in_order_of_text op us vs) (sides op (length us) (length vs) f g)
  side-second Eq us vs f g h = found-behind us vs f g h
  side-second Ne us vs f g h = found-behind us vs f g h
  side-second Lt us vs f g h = found-behind us vs f g h
  side-second Le us vs f g h = found-front vs us g f h
  side-second Gt us vs f g h = found-front vs us g f h
  side-second Ge us vs f g h = found-behind us vs f g h

  -- three parts
  found-three : (us vs ws : List Use) (f : ℕ → List Cell) → Found (us ++ (vs ++ ws)) f → Found (us ++ vs ++ ws) f
  found-three us vs ws f h = subst (λ (l : List Use). Found l f) (sym (append_assoc us vs ws)) h

  found-more : (us : List Use) (f g : ℕ → List Cell) → ((n : ℕ) → list_any T (f n) ≡ true → list_any T (g n) ≡ true) → Found us f → Found us g
  found-more us f g k h = record { number = h.number; used = h.used; at = h.at; id = h.id; own = h.own; read = k h.number h.read }

  -- in one of two lists
  one-of : {G : Type 0} (xs ys : List Cell) → (list_any T xs ≡ true → G) → (list_any T ys ≡ true → G) → list_any T (xs ++ ys) ≡ true → G
  one-of {G} xs ys left right h =
      elim (or-true (list_any T xs) (list_any T ys) (sym (list_any-append T xs ys) ∙ h)) [
        | inl here ↦ left here
        | inr later ↦ right later
      ]

  -- the branch that is taken
  if-taken : (x : Bool) (us vs : List Use) (xs ys : List Cell) (f g : ℕ → List Cell) → (list_any T xs ≡ true → Found us f) → (list_any T ys ≡ true → Found vs g)
      → list_any T (if x then xs else ys) ≡ true → Found (us ++ vs) (in_parts (length us) (λ n. if x then f n else []) (λ n. if x then [] else g n))
  if-taken true us vs xs ys f g left right h = found-front us vs f (λ n. []) (left h)
  if-taken false us vs xs ys f g left right h = found-behind us vs (λ n. []) g (right h)

  match-taken : (v : Value) (us vs : List Use) (xs : List Cell) (ys : Value → List Cell) (f : ℕ → List Cell) (g : Value → ℕ → List Cell)
      → (list_any T xs ≡ true → Found us f) → ((w : Value) → list_any T (ys w) ≡ true → Found vs (g w))
      → list_any T (taken_apart v xs ys) ≡ true → Found (us ++ vs) (in_parts (length us) (λ n. taken_apart v (f n) (λ w. [])) (λ n. taken_apart v [] (λ w. g w n)))
  match-taken (Flag b) us vs xs ys f g left right h = found-front us vs f (λ n. []) (left h)
  match-taken (Num n) us vs xs ys f g left right h = found-front us vs f (λ n. []) (left h)
  match-taken (Str bytes) us vs xs ys f g left right h = found-front us vs f (λ n. []) (left h)
  match-taken (Id id) us vs xs ys f g left right h = found-front us vs f (λ n. []) (left h)
  match-taken (Ids ids) us vs xs ys f g left right h = found-front us vs f (λ n. []) (left h)
  match-taken Nothing us vs xs ys f g left right h = found-front us vs f (λ n. []) (left h)
  match-taken (Just w) us vs xs ys f g left right h = found-behind us vs (λ n. []) (g w) (right w h)

  -- at one of the records in the source
  each-taken : (us : List Use) (P : ℕ → Bool) (xs : ℕ → List Cell) (f : ℕ → ℕ → List Cell) → ((y : ℕ) → list_any T (xs y) ≡ true → Found us (f y)) → (ids : List ℕ)
      → list_any T (flat_map (λ y. if P y then xs y else []) ids) ≡ true → Found us (λ n. flat_map (λ y. if P y then f y n else []) ids)
  each-taken us P xs f k [] h = cc
  each-taken us P xs f k (y ∷ ids) h =
      one-of {G = Found us (λ n. flat_map (λ y. if P y then f y n else []) (y ∷ ids))} (if P y then xs y else []) (flat_map (λ y. if P y then xs y else []) ids)
      (λ here. found-more us (λ n. if P y then f y n else []) (λ n. (if P y then f y n else []) ++ flat_map (λ y. if P y then f y n else []) ids)
      (λ n e. list_any-append T (if P y then f y n else []) (flat_map (λ y. if P y then f y n else []) ids) ∙ ap (λ t. t || list_any T (flat_map (λ y. if P y then f y n else []) ids)) e)
      (own (P y) here))
      (λ later. found-more us (λ n. flat_map (λ y. if P y then f y n else []) ids) (λ n. (if P y then f y n else []) ++ flat_map (λ y. if P y then f y n else []) ids)
      (λ n e. list_any-append T (if P y then f y n else []) (flat_map (λ y. if P y then f y n else []) ids) ∙ or-last (list_any T (if P y then f y n else [])) _ e)
      (each-taken us P xs f k ids later)) h
    where
      or-last : (a b : Bool) → b ≡ true → (a || b) ≡ true
      or-last true b e = refl
      or-last false b e = e

      own : (p : Bool) → list_any T (if p then xs y else []) ≡ true → Found us (λ n. if p then f y n else [])
      own true e = k y e
      own false e = cc

  own-found : (u : Use) (cells : List Cell) (id : ℕ) → T (cell_of u id) ≡ true → list_any T cells ≡ true → Found (u ∷ []) (λ n. cells)
  own-found u cells id own h = record { number = 0; used = u; at = refl; id = id; own = own; read = h }

  mapped-cell : (u : Use) (ids : List ℕ) → list_any T (map (λ i. record { model = u.model; id = i; field = u.field }) ids) ≡ true → (id : ℕ) × (T (cell_of u id) ≡ true)
  mapped-cell u [] h = cc
  mapped-cell u (i ∷ ids) h =
      elim (or-true (T (record { model = u.model; id = i; field = u.field })) _ h) [
        | inl here ↦ (i, here)
        | inr later ↦ mapped-cell u ids later
      ]

  module _ (d : Database) where
    mutual
      used : (x : Expr) (env : Env) → list_any T (touched d env x) ≡ true → Found (uses_of x) (λ n. read_by d env x n)
      used (flag b) env h = cc
      used (num k) env h = cc
      used (str bytes) env h = cc
      used (var depth name) env h = cc
      used nothing env h = cc
      used (just x) env h = used x env h
      used (get x m f) env h =
          let u : Use = record { model = m; field = f } in
          let own : List Cell = (record { model = m; id = id_of (value_of d env x); field = f }) ∷ [] in
          one-of {G = Found (uses_of x ++ u ∷ []) (in_parts (length (uses_of x)) (λ n. read_by d env x n) (λ n. own))} (touched d env x) own
          (λ k. found-front (uses_of x) (u ∷ []) (λ n. read_by d env x n) (λ n. own) (used x env k))
          (λ k. found-behind (uses_of x) (u ∷ []) (λ n. read_by d env x n) (λ n. own) (own-found u own (id_of (value_of d env x)) (sym (or-false (T (cell_of u (id_of (value_of d env x))))) ∙ k) k)) h
      used (equal x y op) env h =
          one-of {G = Found (uses_of x ++ uses_of y) (in_parts (length (uses_of x)) (λ n. read_by d env x n) (λ n. read_by d env y n))} (touched d env x) (touched d env y)
          (λ k. found-front (uses_of x) (uses_of y) (λ n. read_by d env x n) (λ n. read_by d env y n) (used x env k))
          (λ k. found-behind (uses_of x) (uses_of y) (λ n. read_by d env x n) (λ n. read_by d env y n) (used y env k)) h
      used (iff x y op) env h =
          one-of {G = Found (uses_of x ++ uses_of y) (in_parts (length (uses_of x)) (λ n. read_by d env x n) (λ n. read_by d env y n))} (touched d env x) (touched d env y)
          (λ k. found-front (uses_of x) (uses_of y) (λ n. read_by d env x n) (λ n. read_by d env y n) (used x env k))
          (λ k. found-behind (uses_of x) (uses_of y) (λ n. read_by d env x n) (λ n. read_by d env y n) (used y env k)) h
      used (less x y op) env h =
          one-of {G = Found (in_order_of_text op (uses_of x) (uses_of y)) (sides op (length (uses_of x)) (length (uses_of y)) (λ n. read_by d env x n) (λ n. read_by d env y n))} (touched d env x) (touched d env y)
          (λ k. side-first op (uses_of x) (uses_of y) (λ n. read_by d env x n) (λ n. read_by d env y n) (used x env k))
          (λ k. side-second op (uses_of x) (uses_of y) (λ n. read_by d env x n) (λ n. read_by d env y n) (used y env k)) h
      used (within x m set) env h =
          one-of {G = Found (uses_of x ++ set_uses_of set) (in_parts (length (uses_of x)) (λ n. read_by d env x n) (λ n. set_read_by d env set n))} (touched d env x) (set_touched d env set)
          (λ k. found-front (uses_of x) (set_uses_of set) (λ n. read_by d env x n) (λ n. set_read_by d env set n) (used x env k))
          (λ k. found-behind (uses_of x) (set_uses_of set) (λ n. read_by d env x n) (λ n. set_read_by d env set n) (set-used set env k)) h
      used (negation x) env h = used x env h
      used (both x y) env h =
          one-of {G = Found (uses_of x ++ uses_of y) (in_parts (length (uses_of x)) (λ n. read_by d env x n) (λ n. read_by d env y n))} (touched d env x) (touched d env y)
          (λ k. found-front (uses_of x) (uses_of y) (λ n. read_by d env x n) (λ n. read_by d env y n) (used x env k))
          (λ k. found-behind (uses_of x) (uses_of y) (λ n. read_by d env x n) (λ n. read_by d env y n) (used y env k)) h
      used (either x y) env h =
          one-of {G = Found (uses_of x ++ uses_of y) (in_parts (length (uses_of x)) (λ n. read_by d env x n) (λ n. read_by d env y n))} (touched d env x) (touched d env y)
          (λ k. found-front (uses_of x) (uses_of y) (λ n. read_by d env x n) (λ n. read_by d env y n) (used x env k))
          (λ k. found-behind (uses_of x) (uses_of y) (λ n. read_by d env x n) (λ n. read_by d env y n) (used y env k)) h
      used (if_expr c x y) env h =
          let taken : Bool = truth_of (value_of d env c) in
          let rest : ℕ → List Cell = in_parts (length (uses_of x)) (λ n. if taken then read_by d env x n else []) (λ n. if taken then [] else read_by d env y n) in
          found-three (uses_of c) (uses_of x) (uses_of y) (in_parts (length (uses_of c)) (λ n. read_by d env c n) rest)
          (one-of {G = Found (uses_of c ++ (uses_of x ++ uses_of y)) (in_parts (length (uses_of c)) (λ n. read_by d env c n) rest)} (touched d env c) (if taken then touched d env x else touched d env y)
          (λ k. found-front (uses_of c) (uses_of x ++ uses_of y) (λ n. read_by d env c n) rest (used c env k))
          (λ k. found-behind (uses_of c) (uses_of x ++ uses_of y) (λ n. read_by d env c n) rest
          (if-taken taken (uses_of x) (uses_of y) (touched d env x) (touched d env y) (λ n. read_by d env x n) (λ n. read_by d env y n) (λ k. used x env k) (λ k. used y env k) k)) h)
      used (match_expr x y name c) env h =
          let v : Value = value_of d env x in
          let rest : ℕ → List Cell = in_parts (length (uses_of y)) (λ n. taken_apart v (read_by d env y n) (λ w. [])) (λ n. taken_apart v [] (λ w. read_by d (env ++ w ∷ []) c n)) in
          found-three (uses_of x) (uses_of y) (uses_of c) (in_parts (length (uses_of x)) (λ n. read_by d env x n) rest)
          (one-of {G = Found (uses_of x ++ (uses_of y ++ uses_of c)) (in_parts (length (uses_of x)) (λ n. read_by d env x n) rest)} (touched d env x) (taken_apart v (touched d env y) (λ w. touched d (env ++ w ∷ []) c))
          (λ k. found-front (uses_of x) (uses_of y ++ uses_of c) (λ n. read_by d env x n) rest (used x env k))
          (λ k. found-behind (uses_of x) (uses_of y ++ uses_of c) (λ n. read_by d env x n) rest
          (match-taken v (uses_of y) (uses_of c) (touched d env y) (λ w. touched d (env ++ w ∷ []) c) (λ n. read_by d env y n) (λ w n. read_by d (env ++ w ∷ []) c n)
          (λ k. used y env k) (λ w k. used c (env ++ w ∷ []) k) k)) h)

      set-used : (x : SetExpr) (env : Env) → list_any T (set_touched d env x) ≡ true → Found (set_uses_of x) (λ n. set_read_by d env x n)
      set-used everyone env h = cc
      set-used nobody env h = cc
      set-used (listed items) env h = items-used items env h
      set-used (union x y) env h =
          one-of {G = Found (set_uses_of x ++ set_uses_of y) (in_parts (length (set_uses_of x)) (λ n. set_read_by d env x n) (λ n. set_read_by d env y n))} (set_touched d env x) (set_touched d env y)
          (λ k. found-front (set_uses_of x) (set_uses_of y) (λ n. set_read_by d env x n) (λ n. set_read_by d env y n) (set-used x env k))
          (λ k. found-behind (set_uses_of x) (set_uses_of y) (λ n. set_read_by d env x n) (λ n. set_read_by d env y n) (set-used y env k)) h
      set-used (minus x y) env h =
          one-of {G = Found (set_uses_of x ++ set_uses_of y) (in_parts (length (set_uses_of x)) (λ n. set_read_by d env x n) (λ n. set_read_by d env y n))} (set_touched d env x) (set_touched d env y)
          (λ k. found-front (set_uses_of x) (set_uses_of y) (λ n. set_read_by d env x n) (λ n. set_read_by d env y n) (set-used x env k))
          (λ k. found-behind (set_uses_of x) (set_uses_of y) (λ n. set_read_by d env x n) (λ n. set_read_by d env y n) (set-used y env k)) h
      set-used (find m filters) env h = filters-used filters env m h
      set-used (path m x) env h = used x env h
      set-used (mapped set i name m x) env h =
          let body : ℕ → List Cell = λ n. flat_map (λ y. if member d env set (Rec i y) then read_by d (env ++ Id y ∷ []) x n else []) (ids_of d i) in
          one-of {G = Found (set_uses_of set ++ uses_of x) (in_parts (length (set_uses_of set)) (λ n. set_read_by d env set n) body)}
          (set_touched d env set) (flat_map (λ y. if member d env set (Rec i y) then touched d (env ++ Id y ∷ []) x else []) (ids_of d i))
          (λ k. found-front (set_uses_of set) (uses_of x) (λ n. set_read_by d env set n) body (set-used set env k))
          (λ k. found-behind (set_uses_of set) (uses_of x) (λ n. set_read_by d env set n) body
          (each-taken (uses_of x) (λ y. member d env set (Rec i y)) (λ y. touched d (env ++ Id y ∷ []) x) (λ y n. read_by d (env ++ Id y ∷ []) x n)
          (λ y k. used x (env ++ Id y ∷ []) k) (ids_of d i) k)) h
      set-used (flat_mapped set i name c) env h =
          let body : ℕ → List Cell = λ n. flat_map (λ y. if member d env set (Rec i y) then set_read_by d (env ++ Id y ∷ []) c n else []) (ids_of d i) in
          one-of {G = Found (set_uses_of set ++ set_uses_of c) (in_parts (length (set_uses_of set)) (λ n. set_read_by d env set n) body)}
          (set_touched d env set) (flat_map (λ y. if member d env set (Rec i y) then set_touched d (env ++ Id y ∷ []) c else []) (ids_of d i))
          (λ k. found-front (set_uses_of set) (set_uses_of c) (λ n. set_read_by d env set n) body (set-used set env k))
          (λ k. found-behind (set_uses_of set) (set_uses_of c) (λ n. set_read_by d env set n) body
          (each-taken (set_uses_of c) (λ y. member d env set (Rec i y)) (λ y. set_touched d (env ++ Id y ∷ []) c) (λ y n. set_read_by d (env ++ Id y ∷ []) c n)
          (λ y k. set-used c (env ++ Id y ∷ []) k) (ids_of d i) k)) h
      set-used (if_set c x y) env h =
          let taken : Bool = truth_of (value_of d env c) in
          let rest : ℕ → List Cell = in_parts (length (set_uses_of x)) (λ n. if taken then set_read_by d env x n else []) (λ n. if taken then [] else set_read_by d env y n) in
          found-three (uses_of c) (set_uses_of x) (set_uses_of y) (in_parts (length (uses_of c)) (λ n. read_by d env c n) rest)
          (one-of {G = Found (uses_of c ++ (set_uses_of x ++ set_uses_of y)) (in_parts (length (uses_of c)) (λ n. read_by d env c n) rest)} (touched d env c) (if taken then set_touched d env x else set_touched d env y)
          (λ k. found-front (uses_of c) (set_uses_of x ++ set_uses_of y) (λ n. read_by d env c n) rest (used c env k))
          (λ k. found-behind (uses_of c) (set_uses_of x ++ set_uses_of y) (λ n. read_by d env c n) rest
          (if-taken taken (set_uses_of x) (set_uses_of y) (set_touched d env x) (set_touched d env y) (λ n. set_read_by d env x n) (λ n. set_read_by d env y n) (λ k. set-used x env k) (λ k. set-used y env k) k)) h)
      set-used (match_set x y name c) env h =
          let v : Value = value_of d env x in
          let rest : ℕ → List Cell = in_parts (length (set_uses_of y)) (λ n. taken_apart v (set_read_by d env y n) (λ w. [])) (λ n. taken_apart v [] (λ w. set_read_by d (env ++ w ∷ []) c n)) in
          found-three (uses_of x) (set_uses_of y) (set_uses_of c) (in_parts (length (uses_of x)) (λ n. read_by d env x n) rest)
          (one-of {G = Found (uses_of x ++ (set_uses_of y ++ set_uses_of c)) (in_parts (length (uses_of x)) (λ n. read_by d env x n) rest)} (touched d env x) (taken_apart v (set_touched d env y) (λ w. set_touched d (env ++ w ∷ []) c))
          (λ k. found-front (uses_of x) (set_uses_of y ++ set_uses_of c) (λ n. read_by d env x n) rest (used x env k))
          (λ k. found-behind (uses_of x) (set_uses_of y ++ set_uses_of c) (λ n. read_by d env x n) rest
          (match-taken v (set_uses_of y) (set_uses_of c) (set_touched d env y) (λ w. set_touched d (env ++ w ∷ []) c) (λ n. set_read_by d env y n) (λ w n. set_read_by d (env ++ w ∷ []) c n)
          (λ k. set-used y env k) (λ w k. set-used c (env ++ w ∷ []) k) k)) h)

      items-used : (x : Items) (env : Env) → list_any T (items_touched d env x) ≡ true → Found (item_uses_of x) (λ n. items_read_by d env x n)
      items-used no_items env h = cc
      items-used (static_item i items) env h = items-used items env h
      items-used (record_item m x items) env h =
          one-of {G = Found (uses_of x ++ item_uses_of items) (in_parts (length (uses_of x)) (λ n. read_by d env x n) (λ n. items_read_by d env items n))} (touched d env x) (items_touched d env items)
          (λ k. found-front (uses_of x) (item_uses_of items) (λ n. read_by d env x n) (λ n. items_read_by d env items n) (used x env k))
          (λ k. found-behind (uses_of x) (item_uses_of items) (λ n. read_by d env x n) (λ n. items_read_by d env items n) (items-used items env k)) h

      filters-used : (x : Filters) (env : Env) (m : ℕ) → list_any T (filters_touched d env m x) ≡ true → Found (filter_uses_of m x) (λ n. filters_read_by d env m x n)
      filters-used no_filters env m h = cc
      filters-used (filter_and f op x filters) env m h =
          let u : Use = record { model = m; field = f } in
          let own : List Cell = map (λ i. record { model = m; id = i; field = f }) (ids_of d m) in
          let rest : ℕ → List Cell = λ n. filters_read_by d env m filters n in
          let G : Type 0 = Found (uses_of x ++ u ∷ filter_uses_of m filters) (in_parts (length (uses_of x)) (λ n. read_by d env x n) (in_parts 1 (λ n. own) rest)) in
          one-of {G = G} (touched d env x ++ own) (filters_touched d env m filters)
          (λ k. one-of {G = G} (touched d env x) own
          (λ k. found-front (uses_of x) (u ∷ filter_uses_of m filters) (λ n. read_by d env x n) (in_parts 1 (λ n. own) rest) (used x env k))
          (λ k. found-behind (uses_of x) (u ∷ filter_uses_of m filters) (λ n. read_by d env x n) (in_parts 1 (λ n. own) rest)
          (found-front (u ∷ []) (filter_uses_of m filters) (λ n. own) rest (own-found u own (mapped-cell u (ids_of d m) k).0 (mapped-cell u (ids_of d m) k).1 k))) k)
          (λ k. found-behind (uses_of x) (u ∷ filter_uses_of m filters) (λ n. read_by d env x n) (in_parts 1 (λ n. own) rest)
          (found-behind (u ∷ []) (filter_uses_of m filters) (λ n. own) rest (filters-used filters env m k))) h

    init-used : (init : Init) (id : ℕ) → list_any T (init_touched d init id) ≡ true → Found (init_uses_of init) (λ n. init_read_by d init id n)
    init-used (plain x) id h = used x (Id id ∷ []) h
    init-used (of_set m set) id h = set-used set (Id id ∷ []) h

pub uses-read : UsesRead
uses-read d init id cell = (
  λ touches.
      let u : Use = record { model = cell.model; field = cell.field } in
      let T : Cell → Bool = is_at u cell.id in
      let h = init-used T d init id (cell-at u cell.id (init_touched d init id) touches) in
      let rest = and-right (cell.model == h.used.model) _ h.own in
      record {
        number = h.number;
        used = h.used;
        at = h.at;
        model = sym (eqb-true _ _ (and-left (cell.model == h.used.model) _ h.own));
        field = sym (eqb-true _ _ (and-left (cell.field == h.used.field) _ rest));
        reads = at-cell u cell.id (init_read_by d init id h.number) h.read;
      },
  λ n reads.
      let u : Use = record { model = cell.model; field = cell.field } in
      at-cell u cell.id (init_touched d init id) (init-touches (is_at u cell.id) d init id n (cell-at u cell.id (init_read_by d init id n) reads)),
)
