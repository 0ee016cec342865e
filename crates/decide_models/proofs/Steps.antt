-- The steps of loops, and what they end in.
use Rattle.std.proofs.Common.{◌≡◌, ℕ, ◌<◌, ◌+◌, Bool, true, false, ap, cond, refl, ◌∙◌, List, [], ◌∷◌, ◌++◌, Some, None, length, get_or, map, arith, slice_get, take, zero, suc, append_assoc, sym, append-nil, inl, inr, Contains, subst}
use Rattle.std.specs.Prelude.{nat_lt}
use Rattle.std.specs.List.{position, position_or_len, range_with_len, enumerate_from, flat_map, find}
use Rattle.std.proofs.lemmas.List.FromFn.{map-range_with_len_more}
use Rattle.std.proofs.lemmas.List.Sums.{position_or_len_is}
use Rattle.std.proofs.lemmas.List.Elements.{Contains-get_or}
use Rattle.std.proofs.lemmas.Option.{gets, slice_get_past}
use Rattle.std.proofs.lemmas.List.Folds.{find_at}
use Rattle.std.proofs.lemmas.Bool.{cases_lt}
use Rattle.form_terms.proofs.Kept.{list_any-from}
use Rattle.form_terms.proofs.Lists.{find-any}
use Rattle.std.proofs.lemmas.Bool.{le-ltb}
use Rattle.form_tables.proofs.Positions.{below}
use Rattle.form_terms.proofs.Lists.{cond_true, cond_false}

pub map_range_more : {X : Type 0} (f : ℕ → X) (n : ℕ) → map f (range_with_len 0 (n + 1)) ≡ map f (range_with_len 0 n) ++ f n ∷ []
map_range_more f n = map-range_with_len_more f 0 n n (omega arith)

not_below : (n : ℕ) → nat_lt n n ≡ false
not_below n = le-ltb n n (omega arith)

-- the first place that passes
pub position_first : {X : Type 0} (p : X → Bool) (xs : List X) (i : ℕ) (d : X) → i < length xs → ((k : ℕ) → k < i → p (get_or xs k d) ≡ false)
    → p (get_or xs i d) ≡ true → position p xs ≡ Some i
position_first p xs i d lt before here =
    let e : position_or_len p xs ≡ i = position_or_len_is p xs i d (omega arith) before (λ _. here) in
    ap (λ n. cond (nat_lt n (length xs)) (Some n) None) e ∙ cond_true (nat_lt i (length xs)) (Some i) None (below i (length xs) lt)

-- none passes
pub position_none : {X : Type 0} (p : X → Bool) (xs : List X) (d : X) → ((k : ℕ) → k < length xs → p (get_or xs k d) ≡ false) → position p xs ≡ None
position_none p xs d before =
    let e : position_or_len p xs ≡ length xs = position_or_len_is p xs (length xs) d (omega arith) before (λ h. absurd (omega arith)) in
    ap (λ n. cond (nat_lt n (length xs)) (Some n) None) e ∙ cond_false (nat_lt (length xs) (length xs)) (Some (length xs)) None (not_below (length xs))

-- an item by its place
pub item_at : {X : Type 0} (xs : List X) (i : ℕ) (x d : X) → slice_get xs i ≡ Some x → get_or xs i d ≡ x
item_at xs i x d e = grind (arith, gets)

no_more : (a : ℕ) → a + 0 ≡ a
no_more a = omega arith

none_before : (i : ℕ) → 0 + i ≡ i
none_before i = omega arith

enumerated_more : {X : Type 0} (a i : ℕ) (xs : List X) (d : X) → i < length xs
    → enumerate_from a (take (i + 1) xs) ≡ enumerate_from a (take i xs) ++ (a + i, get_or xs i d) ∷ []
enumerated_more a i [] d lt = absurd (omega arith)
enumerated_more a zero (x ∷ xs) d lt = ap (λ n. (n, x) ∷ []) (sym (no_more a))
enumerated_more a (suc i) (x ∷ xs) d lt =
    let rest = enumerated_more (a + 1) i xs d (omega arith) in
    let e : a + 1 + i ≡ a + suc i = omega arith in
    let next : suc i + 1 ≡ suc (i + 1) = omega arith in
    ap (λ n. enumerate_from a (take n (x ∷ xs))) next
    ∙ ap (λ ys. (a, x) ∷ ys) (rest ∙ ap (λ n. enumerate_from (a + 1) (take i xs) ++ (n, get_or xs i d) ∷ []) e)

map-append : {X Y : Type 0} (f : X → Y) (xs ys : List X) → map f (xs ++ ys) ≡ map f xs ++ map f ys
map-append f [] ys = refl
map-append f (x ∷ xs) ys = ap (λ zs. f x ∷ zs) (map-append f xs ys)

flat_map-append : {X Y : Type 0} (f : X → List Y) (xs ys : List X) → flat_map f (xs ++ ys) ≡ flat_map f xs ++ flat_map f ys
flat_map-append f [] ys = refl
flat_map-append f (x ∷ xs) ys = ap (λ zs. f x ++ zs) (flat_map-append f xs ys) ∙ sym (append_assoc (f x) (flat_map f xs) (flat_map f ys))

-- one more item with its place
pub map_enumerated_more : {X Y : Type 0} (f : ℕ × X → Y) (xs : List X) (i : ℕ) (d : X) → i < length xs
    → map f (enumerate_from 0 (take (i + 1) xs)) ≡ map f (enumerate_from 0 (take i xs)) ++ f (i, get_or xs i d) ∷ []
map_enumerated_more f xs i d lt =
    ap (map f) (enumerated_more 0 i xs d lt) ∙ (map-append f (enumerate_from 0 (take i xs)) ((0 + i, get_or xs i d) ∷ []) ∙ ap (λ n. map f (enumerate_from 0 (take i xs)) ++ f (n, get_or xs i d) ∷ []) (none_before i))

pub flat_map_enumerated_more : {X Y : Type 0} (f : ℕ × X → List Y) (xs : List X) (i : ℕ) (d : X) → i < length xs
    → flat_map f (enumerate_from 0 (take (i + 1) xs)) ≡ flat_map f (enumerate_from 0 (take i xs)) ++ f (i, get_or xs i d)
flat_map_enumerated_more f xs i d lt =
    ap (flat_map f) (enumerated_more 0 i xs d lt)
    ∙ (flat_map-append f (enumerate_from 0 (take i xs)) ((0 + i, get_or xs i d) ∷ [])
    ∙ ap (λ ys. flat_map f (enumerate_from 0 (take i xs)) ++ ys) (append-nil (f (0 + i, get_or xs i d)) ∙ ap (λ n. f (n, get_or xs i d)) (none_before i)))

-- a loop's step where what an item gives is put at the end
pub flat_map_goes_on : {X Y : Type 0} (f : ℕ × X → List Y) (xs : List X) (i : ℕ) (d : X) (found new more : List Y) → i < length xs
    → found ≡ flat_map f (enumerate_from 0 (take i xs)) → more ≡ f (i, get_or xs i d) → new ≡ found ++ more → new ≡ flat_map f (enumerate_from 0 (take (i + 1) xs))
flat_map_goes_on f xs i d found new more lt was own e =
    e ∙ (ap (λ ys. ys ++ more) was ∙ (ap (λ ys. flat_map f (enumerate_from 0 (take i xs)) ++ ys) own ∙ sym (flat_map_enumerated_more f xs i d lt)))

pub map_goes_on : {X Y : Type 0} (f : ℕ × X → Y) (xs items : List X) (i n : ℕ) (d : X) (found new : List Y) (own : Y) → items ≡ xs → n ≡ i → i < length items
    → found ≡ map f (enumerate_from 0 (take i xs)) → own ≡ f (n, get_or items i d) → new ≡ found ++ own ∷ [] → new ≡ map f (enumerate_from 0 (take (i + 1) xs))
map_goes_on f xs items i n d found new own same here lt was is e =
    let within : i < length xs = omega (arith, ap length same) in
    let at : own ≡ f (i, get_or xs i d) = is ∙ (ap (λ n. f (n, get_or items i d)) here ∙ ap (λ ys. f (i, get_or ys i d)) same) in
    e ∙ (ap (λ ys. ys ++ own ∷ []) was ∙ (ap (λ y. map f (enumerate_from 0 (take i xs)) ++ y ∷ []) at ∙ sym (map_enumerated_more f xs i d within)))

pub slice_within : {X : Type 0} (xs : List X) (i : ℕ) (x : X) → slice_get xs i ≡ Some x → i < length xs
slice_within [] i x e = cc
slice_within (y ∷ xs) zero x e = omega arith
slice_within (y ∷ xs) (suc i) x e = omega (arith, slice_within xs i x e)

pub item_there : {X : Type 0} (xs : List X) (i : ℕ) (x : X) → slice_get xs i ≡ Some x → Contains xs x
item_there {X} xs i x e =
    let P : X → Type 0 = λ y. Contains xs y in
    subst P (item_at xs i x x e) (Contains-get_or xs i x (slice_within xs i x e))

-- an item that passes has a first one
pub no_position : {X : Type 0} (p : X → Bool) (xs : List X) (i : ℕ) (x : X) → slice_get xs i ≡ Some x → p x ≡ true → position p xs ≡ None → ⊥
no_position p xs i x e passes none =
    let there : Contains xs x = item_there xs i x e in
    let (y, first, own) = find-any p xs (list_any-from p xs x there passes) in
    elim (cases_lt (position_or_len p xs) (length xs)) [
      | inl less ↦
          let some : position p xs ≡ Some (position_or_len p xs) = cond_true (nat_lt (position_or_len p xs) (length xs)) (Some (position_or_len p xs)) None (below (position_or_len p xs) (length xs) less) in cc
      | inr more ↦ let past : find p xs ≡ None = find_at p xs ∙ slice_get_past xs (position_or_len p xs) more in cc
    ]
