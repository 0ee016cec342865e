-- Numbers below n that differ from one another are at most n.
use Rattle.std.proofs.Common.{◌≡◌, ◌≢◌, ℕ, suc, ◌<◌, ◌≤◌, List, [], ◌∷◌, length, get_or, map, eqb, sym, ◌∙◌, false, arith}
use Rattle.std.specs.List.{All, AllPairs, IsDistinct}
use Rattle.std.proofs.lemmas.Bool.{ne_eqb, eqb-true}
use Rattle.std.proofs.lemmas.List.{length-map, get_or-map}
use Rattle.std.proofs.lemmas.List.Elements.{recursion_from_All, All-map}
use Rattle.std.proofs.lemmas.List.Folds.{Any-from_list_any}
use Rattle.std.proofs.lemmas.Map.Steps.{length-le_from_distinct_below}

IsDistinct-from_pairs : (xs : List ℕ) → AllPairs (λ x y. x ≢ y) xs → IsDistinct eqb xs
unfolding IsDistinct
IsDistinct-from_pairs [] h = tt
IsDistinct-from_pairs (x ∷ xs) h = (
  recursion_from_All (λ y. eqb x y ≡ false) xs (λ k d l. ne_eqb x (get_or xs k d) (h 0 (suc k) d (omega arith) (omega arith))),
  IsDistinct-from_pairs xs (λ i j d l m. h (suc i) (suc j) d (omega arith) (omega arith)),
)

pub length-le_from_pairs : (xs : List ℕ) (n : ℕ) → AllPairs (λ x y. x ≢ y) xs → All (λ x. x < n) xs → length xs ≤ n
length-le_from_pairs xs n pairs below =
    length-le_from_distinct_below xs n (IsDistinct-from_pairs xs pairs)
    (λ q e.
    let found = Any-from_list_any (eqb q) xs e in
    let lt : get_or xs found.0 found.1 < n = below found.0 found.1 found.2 in
    omega (arith, lt, found.3, eqb-true q found.1 found.4))

-- the same of what numbers are read off the elements of a list
pub length-le_from_pairs_by : {X : Type 0} (f : X → ℕ) (xs : List X) (n : ℕ) → AllPairs (λ x y. f x ≢ f y) xs → All (λ x. f x < n) xs → length xs ≤ n
length-le_from_pairs_by f [] n pairs below = omega arith
length-le_from_pairs_by {X} f (x ∷ xs) n pairs below =
    let ys : List X = x ∷ xs in
    let at : (i : ℕ) (d : ℕ) → i < length (map f ys) → get_or (map f ys) i d ≡ f (get_or ys i x) = λ i d l. get_or-map f ys i x d (omega (arith, length-map ys f)) in
    let apart : AllPairs (λ a b. a ≢ b) (map f ys) = λ i j d l m e. pairs i j x l (omega (arith, length-map ys f)) (sym (at i d (omega arith)) ∙ e ∙ at j d m) in
    omega (arith, length-map ys f, length-le_from_pairs (map f ys) n apart (All-map (λ a. a < n) f ys below))
