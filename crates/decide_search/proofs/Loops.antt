-- Lists, one item at a time.
use Rattle.std.proofs.Common.{◌≡◌, ◌∙◌, ℕ, zero, suc, ◌+◌, ◌<◌, ◌≤◌, refl, sym, List, [], ◌∷◌, ◌++◌, length, get_or, ap, subst, arith, All, take}
use Rattle.std.proofs.lemmas.List.Elements.{All-append, All-nil, All-cons}

pub take_more : {X : Type 0} (xs : List X) (i : ℕ) (d : X) → i < length xs → take (i + 1) xs ≡ take i xs ++ get_or xs i d ∷ []
take_more [] i d lt = absurd (omega arith)
take_more (x ∷ xs) zero d lt = refl
take_more (x ∷ xs) (suc i) d lt = let next : suc i + 1 ≡ suc (i + 1) = omega arith in ap (λ n. take n (x ∷ xs)) next ∙ ap (λ ys. x ∷ ys) (take_more xs i d (omega arith))

take_whole : {X : Type 0} (xs : List X) (i : ℕ) → length xs ≤ i → take i xs ≡ xs
take_whole [] zero le = refl
take_whole [] (suc i) le = refl
take_whole (x ∷ xs) zero le = absurd (omega arith)
take_whole (x ∷ xs) (suc i) le = ap (λ ys. x ∷ ys) (take_whole xs i (omega arith))

-- what holds of the first items holds of one more
pub all_more : {X : Type 0} (P : X → Type 0) (xs : List X) (i : ℕ) (d : X) → i < length xs → All P (take i xs) → P (get_or xs i d) → All P (take (i + 1) xs)
all_more {X} P xs i d lt h k =
    subst (λ (ys : List X). All P ys) (sym (take_more xs i d lt)) (All-append P (take i xs) (get_or xs i d ∷ []) h (All-cons P (get_or xs i d) [] k (All-nil P)))

-- and so of all
pub all_done : {X : Type 0} (P : X → Type 0) (xs : List X) (i : ℕ) → length xs ≤ i → All P (take i xs) → All P xs
all_done {X} P xs i le h = subst (λ (ys : List X). All P ys) (take_whole xs i le) h
