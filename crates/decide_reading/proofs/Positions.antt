-- First places in a list, as one more item is put at its end.
use Rattle.std.proofs.Common.{◌≡◌, ◌∙◌, ℕ, ◌+◌, ◌≤◌, Bool, true, false, cond, refl, sym, List, [], ◌∷◌, ◌++◌, Option, None, Some, length, arith, length-append, eqb}
use Rattle.std.specs.Prelude.{position, nat_lt}
use Rattle.std.specs.List.{position_or_len}
use Rattle.std.proofs.lemmas.List.Folds.{position_or_len_push}
use Rattle.std.proofs.lemmas.List.Sums.{prefix_len-le-length}
use Rattle.std.proofs.lemmas.Option.{none-some}

from_numbers : (n m n' m' : ℕ) (b : Bool) → n ≤ m → m' ≡ m + 1 → n' ≡ cond (eqb n m) (m + cond b 0 1) n
    → cond (nat_lt n' m') (Some n') None ≡ cond (nat_lt n m) (Some n) (cond b (Some m) None)
from_numbers n m n' m' b le more e = grind (arith)

pub position_push : {X : Type 0} (p : X → Bool) (xs : List X) (y : X)
    → position p (xs ++ y ∷ []) ≡ cond (nat_lt (position_or_len p xs) (length xs)) (Some (position_or_len p xs)) (cond (p y) (Some (length xs)) None)
position_push p xs y =
    from_numbers (position_or_len p xs) (length xs) (position_or_len p (xs ++ y ∷ [])) (length (xs ++ y ∷ [])) (p y) (prefix_len-le-length _ xs) (length-append xs (y ∷ [])) (position_or_len_push p xs y)

after : (n m : ℕ) (o : Option ℕ) (i : ℕ) → cond (nat_lt n m) (Some n) None ≡ Some i → cond (nat_lt n m) (Some n) o ≡ Some i
after n m o i h = by (nat_lt n m) h
  where
    by : (b : Bool) → cond b (Some n) None ≡ Some i → cond b (Some n) o ≡ Some i
    by true h = h
    by false h = absurd (none-some i h)

pub position_kept : {X : Type 0} (p : X → Bool) (xs : List X) (y : X) (i : ℕ) → position p xs ≡ Some i → position p (xs ++ y ∷ []) ≡ Some i
position_kept p xs y i h = position_push p xs y ∙ after (position_or_len p xs) (length xs) (cond (p y) (Some (length xs)) None) i h

behind : (n m : ℕ) (o : Option ℕ) → cond (nat_lt n m) (Some n) None ≡ None → cond (nat_lt n m) (Some n) o ≡ o
behind n m o h = by (nat_lt n m) h
  where
    by : (b : Bool) → cond b (Some n) None ≡ None → cond b (Some n) o ≡ o
    by true h = absurd (none-some n (sym h))
    by false h = refl

pub position_new : {X : Type 0} (p : X → Bool) (xs : List X) (y : X) → position p xs ≡ None → position p (xs ++ y ∷ []) ≡ cond (p y) (Some (length xs)) None
position_new p xs y h = position_push p xs y ∙ behind (position_or_len p xs) (length xs) (cond (p y) (Some (length xs)) None) h
