-- Numbers that rise.
use Rattle.std.proofs.Common.{◌≡◌, ◌∙◌, ℕ, ◌<◌, length, List, [], ◌∷◌, get_or, map, refl, ap, arith}
use Rattle.std.specs.List.Sorted.{IsNonDecreasing, IsNonDecreasingBy}
use Rattle.std.proofs.lemmas.List.{get_or-map, length-map}

pub map-map : {A B C : Type 0} (f : A → B) (g : B → C) (xs : List A) → map g (map f xs) ≡ map (λ x. g (f x)) xs
map-map f g [] = refl
map-map f g (x ∷ xs) = ap (λ ys. g (f x) ∷ ys) (map-map f g xs)

-- elements that do not fall by a number, seen in another way
pub order-seen : {A B : Type 0} (n : A → ℕ) (f : A → B) (m : B → ℕ) → ((x : A) → m (f x) ≡ n x) → (xs : List A) → IsNonDecreasingBy n xs → IsNonDecreasing (map m (map f xs))
order-seen n f m same [] h i j d le below = absurd (omega (arith, below))
order-seen n f m same (x ∷ xs) h i j d le below =
    let l = x ∷ xs in
    let shorter : length (map f l) ≡ length l = length-map l f in
    let size : length (map m (map f l)) ≡ length l = length-map (map f l) m ∙ shorter in
    let last : j < length l = rw (← size) below in
    let one : i < length l = omega (arith, last, le) in
    let a : get_or (map m (map f l)) i d ≡ n (get_or l i x) =
    get_or-map m (map f l) i (f x) d (rw shorter one) ∙ ap m (get_or-map f l i x (f x) one) ∙ same (get_or l i x) in
    let b : get_or (map m (map f l)) j d ≡ n (get_or l j x) =
    get_or-map m (map f l) j (f x) d (rw shorter last) ∙ ap m (get_or-map f l j x (f x) last) ∙ same (get_or l j x) in
    rw (a, b) (h i j x le last)
