-- Pieces put one after another.
use Rattle.std.proofs.Common.{◌≡◌, ℕ, zero, suc, ◌+◌, ◌<◌, List, [], ◌∷◌, ◌++◌, length, ap, sym, ◌∙◌, take, get_or, map, arith, append_assoc, append-nil}
use Rattle.std.specs.List.{concat}

pub concat-next : {X : Type 0} (f : X → List ℕ) (xs : List X) (i : ℕ) (d : X) → i < length xs
    → concat (map f (take (i + 1) xs)) ≡ concat (map f (take i xs)) ++ f (get_or xs i d)
concat-next f [] i d below = absurd (omega arith)
concat-next f (y ∷ xs) zero d below = append-nil (f y)
concat-next f (y ∷ xs) (suc i) d below =
    let next : suc i + 1 ≡ suc (i + 1) = omega arith in
    rw next (ap (λ z. f y ++ z) (concat-next f xs i d (omega arith)) ∙ sym (append_assoc (f y) (concat (map f (take i xs))) (f (get_or xs i d))))
