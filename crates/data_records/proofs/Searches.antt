-- The first element that passes a test: of a list that was made from another, and of one whose keys rise.
use Rattle.std.proofs.Common.{◌≡◌, ℕ, zero, suc, ◌<◌, ◌≤◌, Bool, true, false, List, [], ◌∷◌, refl, ap, sym, ◌∙◌, cond, arith, get_or, length, map}
use Rattle.std.specs.Prelude.{Option, Some, None, ◌==◌, slice_get, Result, Ok, Err, ◌⊎◌}
use Rattle.std.proofs.Math.Logic.{inl, inr, ⊎_elim}
use Rattle.std.specs.List.{find}
use Rattle.std.specs.List.Sorted.{IsStrictlyIncreasing, IsBinarySearchResult, IsSearchInRange}
use Rattle.std.specs.Option.{option_map}
use Rattle.std.specs.Ordering.{nat_cmp, ordering_index, is_eq}
use Rattle.std.specs.Result.{MatchResult}
use Rattle.std.specs.Cmp.{unsigned_ties}
use Rattle.std.specs.declared.cmp.Ordering.{Ordering}
use Rattle.std.specs.declared.cmp.Ordering.TheVariants.{Less, Greater}
use Rattle.data_records.specs.Rising.{IsFirstAt}
use Rattle.std.proofs.lemmas.Bool.{cases_order, eqb-true, eq-eqb, ne_eqb}
use Rattle.std.proofs.lemmas.Bool.Decides.{nat_tests}
use Rattle.std.proofs.lemmas.List.{get_or-map, length-map}
use Rattle.std.proofs.lemmas.List.Kept.{AllPairs-from_increasing}
use Rattle.std.proofs.lemmas.Option.{slice_get-get_or, slice_get_within}

cond-some : {X Y : Type 0} (f : X → Y) (b : Bool) (x : X) (o : Option X) → cond b (Some (f x)) (option_map f o) ≡ option_map f (cond b (Some x) o)
cond-some f true x o = refl
cond-some f false x o = refl

pub find-seen : {X Y : Type 0} (p : Y → Bool) (f : X → Y) (xs : List X) → find p (map f xs) ≡ option_map f (find (λ x. p (f x)) xs)
find-seen p f [] = refl
find-seen p f (x ∷ xs) = ap (λ o. cond (p (f x)) (Some (f x)) o) (find-seen p f xs) ∙ cond-some f (p (f x)) x (find (λ y. p (f y)) xs)

-- none passes
pub find-never : {X : Type 0} (p : X → Bool) (xs : List X) → ((k : ℕ) (d : X) → k < length xs → p (get_or xs k d) ≡ false) → find p xs ≡ None
find-never p [] fails = refl
find-never p (x ∷ xs) fails =
    ap (λ b. cond b (Some x) (find p xs)) (fails 0 x (omega arith)) ∙ find-never p xs (λ k d below. fails (suc k) d (omega arith))

-- this one passes, and none before it
pub find-first : {X : Type 0} (p : X → Bool) (xs : List X) (i : ℕ) → i < length xs → ((d : X) → p (get_or xs i d) ≡ true)
    → ((k : ℕ) (d : X) → k < i → p (get_or xs k d) ≡ false) → find p xs ≡ slice_get xs i
find-first p [] i below passes fails = absurd (omega arith)
find-first p (x ∷ xs) zero below passes fails = ap (λ b. cond b (Some x) (find p xs)) (passes x)
find-first p (x ∷ xs) (suc i) below passes fails =
    ap (λ b. cond b (Some x) (find p xs)) (fails 0 x (omega arith)) ∙ find-first p xs i (omega arith) passes (λ k d less. fails (suc k) d (omega arith))

-- ---- a search among keys that rise

rises : {X : Type 0} (key : X → ℕ) (xs : List X) → IsStrictlyIncreasing (map key xs) → (i j : ℕ) (d : X) → i < j → j < length xs
    → key (get_or xs i d) < key (get_or xs j d)
rises key xs up i j d less below =
    let pair = AllPairs-from_increasing (map key xs) up i j 0 less (omega (arith, length-map xs key)) in
    let at-i : get_or (map key xs) i 0 ≡ key (get_or xs i d) = get_or-map key xs i d 0 (omega arith) in
    let at-j : get_or (map key xs) j 0 ≡ key (get_or xs j d) = get_or-map key xs j d 0 below in
    omega (arith, pair)

higher : (a b x : ℕ) → a ≤ b → ordering_index (nat_cmp a x) ≤ ordering_index (nat_cmp b x)
higher a b x le = grind (arith, nat_tests)

is-not : (a x : ℕ) (o : Ordering) → is_eq o ≡ false → nat_cmp a x ≡ o → (a == x) ≡ false
is-not a x o not_equal h = unsigned_ties a x ∙ ap is_eq h ∙ not_equal

or-later : (a b : ℕ) → (a < b) ⊎ (b ≤ a)
or-later a b = ⊎_elim (λ e. inr (omega arith)) (λ o. ⊎_elim (λ l. inl l) (λ l. inr (omega arith)) o) (cases_order a b)

-- the search found the place
first_by : {X : Type 0} (key : X → ℕ) (id : ℕ) (xs : List X) (i : ℕ) → IsStrictlyIncreasing (map key xs) → i < length xs
    → IsBinarySearchResult (λ y. nat_cmp (key y) id) xs (Ok i) → IsFirstAt (λ x. key x == id) xs i
first_by {X} key id xs i up below h =
    let it : (d : X) → (key (get_or xs i d) == id) ≡ true = λ d. unsigned_ties (key (get_or xs i d)) id ∙ ap is_eq (h d) in (
      below,
      it,
      (λ k d less. ne_eqb (key (get_or xs k d)) id (λ e.
          let there : key (get_or xs i d) ≡ id = eqb-true _ _ (it d) in
          omega (arith, rises key xs up k i d less below))),
    )

-- the element at the place has the key
pub found_by : {X : Type 0} (key : X → ℕ) (id : ℕ) (xs : List X) (i : ℕ) (x : X) → IsStrictlyIncreasing (map key xs) → slice_get xs i ≡ Some x
    → key x ≡ id → find (λ y. key y == id) xs ≡ Some x
found_by {X} key id xs i x up got has =
    let below = slice_get_within xs i x got in
    let here : (d : X) → get_or xs i d ≡ x = λ d. let both : Some (get_or xs i d) ≡ Some x = sym (slice_get-get_or xs i d below) ∙ got in cc in
    let it : (d : X) → key (get_or xs i d) ≡ id = λ d. ap key (here d) ∙ has in
    find-first (λ y. key y == id) xs i below (λ d. eq-eqb _ _ (it d))
    (λ k d less. ne_eqb (key (get_or xs k d)) id (λ e. omega (arith, it d, e, rises key xs up k i d less below))) ∙ got

pub searched_by : {X : Type 0} (key : X → ℕ) (id : ℕ) (xs : List X) (r : Result ℕ ℕ) → IsStrictlyIncreasing (map key xs) → IsSearchInRange r (length xs)
    → IsBinarySearchResult (λ y. nat_cmp (key y) id) xs r
    → MatchResult r (λ i. find (λ x. key x == id) xs ≡ slice_get xs i) (λ i. find (λ x. key x == id) xs ≡ None)
searched_by {X} key id xs (Ok i) up below h =
    let at = first_by key id xs i up below h in
    find-first (λ x. key x == id) xs i at.0 at.1 at.2
searched_by {X} key id xs (Err i) up within h =
    let at : ℕ → X → ℕ = λ k d. key (get_or xs k d) in
    let parted = h (λ a b d le less. ⊎_elim
    (λ before. higher (at a d) (at b d) id (omega (arith, rises key xs up a b d before less)))
    (λ after.
    let same : a ≡ b = omega arith in
    omega (arith, ap (λ k. ordering_index (nat_cmp (at k d) id)) same)) (or-later a b)) in
    find-never (λ x. key x == id) xs
    (λ k d less. ⊎_elim
    (λ before. is-not (at k d) id Less refl (parted.0 k d (omega arith) before))
    (λ after. is-not (at k d) id Greater refl (parted.1 k d after less)) (or-later k i))

pub placed_by : {X : Type 0} (key : X → ℕ) (id : ℕ) (xs : List X) (r : Result ℕ ℕ) → IsStrictlyIncreasing (map key xs) → IsSearchInRange r (length xs)
    → IsBinarySearchResult (λ y. nat_cmp (key y) id) xs r
    → MatchResult r (λ i. IsFirstAt (λ x. key x == id) xs i) (λ i. find (λ x. key x == id) xs ≡ None)
placed_by key id xs (Ok i) up below h = first_by key id xs i up below h
placed_by key id xs (Err i) up within h = searched_by key id xs (Err i) up within h
