-- What an object tells over several calls.
use Rattle.std.proofs.Common.{◌≡◌, ℕ, ◌+◌, ◌-◌, List, [], ◌++◌, append-nil, length, take, drop, take_all, Option, None, Some, sym, ap, ◌∙◌, append_assoc, subst, arith, length-drop}
use Rattle.std.proofs.Math.Seq.{take-add}
use Rattle.app_flow.specs.Told.{Appends}

-- no call appends nothing
pub Appends-none : {A : Type 0} (a : Option (List A)) → Appends a a []
Appends-none None = tt
Appends-none (Some x) = sym (append-nil x)

-- one call after the other appends the one's part and then the other's
pub Appends-then : {A : Type 0} (a b c : Option (List A)) (first second : List A) → Appends a b first → Appends b c second → Appends a c (first ++ second)
Appends-then a b None first second p q = tt
Appends-then a None (Some z) first second p q = absurd q
Appends-then None (Some y) (Some z) first second p q = absurd p
Appends-then (Some x) (Some y) (Some z) first second p q = q ∙ ap (λ l. l ++ second) p ∙ append_assoc x first second

-- the slice of a piece from n on, as a call takes it
pub rest_slice : (piece : List ℕ) (n : ℕ) → take (length piece - n) (drop n piece) ≡ drop n piece
rest_slice piece n = take_all _ _ (omega (arith, length-drop n piece))

-- one call after another over the same piece: the first n bytes, and m of the slice that is left
pub Appends-more : (a b c : Option (List ℕ)) (piece : List ℕ) (n m : ℕ) → Appends a b (take n piece) → Appends b c (take m (take (length piece - n) (drop n piece))) → Appends a c (take (n + m) piece)
Appends-more a b c piece n m p q =
    let rest = subst (λ l. Appends b c (take m l)) (rest_slice piece n) q in
    subst (Appends a c) (sym (take-add n m piece)) (Appends-then a b c _ _ p rest)
