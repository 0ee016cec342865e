-- Fronts of what is appended.
use Rattle.std.proofs.Common.{◌≡◌, ℕ, suc, ◌+◌, List, [], ◌∷◌, ◌++◌, length, take, Option, sym, ◌∙◌, ap, subst, zero-add, arith}
use Rattle.app_flow.specs.Told.{Appends, AppendsFront}
use Rattle.app_flow.proofs.ToldLemmas.{Appends-then}

take_behind : (xs ys : List ℕ) (n : ℕ) → take (length xs + n) (xs ++ ys) ≡ xs ++ take n ys
take_behind [] ys n = ap (λ k. take k ys) (zero-add n)
take_behind (x ∷ xs) ys n =
    let next : suc (length xs) + n ≡ suc (length xs + n) = omega arith in
    ap (λ k. take k (x ∷ (xs ++ ys))) next ∙ ap (λ zs. x ∷ zs) (take_behind xs ys n)

-- a front behind all of something
pub front_behind : (a b c : Option (List ℕ)) (xs ys : List ℕ) → Appends a b xs → AppendsFront b c ys → AppendsFront a c (xs ++ ys)
front_behind a b c xs ys whole (n, front) = (length xs + n, subst (Appends a c) (sym (take_behind xs ys n)) (Appends-then a b c xs (take n ys) whole front))
