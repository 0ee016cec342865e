-- Taking back literals one by one.
use Rattle.std.proofs.Common.{◌≡◌, ℕ, ◌+◌, ◌-◌, ◌<◌, ◌∙◌, List, length, take, ap, arith}
use Rattle.std.proofs.lemmas.List.{length-take-le, take-take}

-- a list with all but n taken, and then one taken back
pub one_less : {X : Type 0} (xs : List X) (n : ℕ) → n < length xs → take (length (take (length xs - n) xs) - 1) (take (length xs - n) xs) ≡ take (length xs - (n + 1)) xs
one_less xs n l =
    let rest = length-take-le (length xs - n) xs (omega arith) in
    ap (λ k. take (k - 1) (take (length xs - n) xs)) rest
    ∙ take-take (length xs - n - 1) (length xs - n) xs (omega arith)
    ∙ ap (λ k. take k xs) (omega arith)
