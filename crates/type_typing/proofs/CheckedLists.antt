-- Lists whose parts are checked from the left.
use Rattle.std.proofs.Common.{zero, suc, ◌≡◌, ◌≢◌, ◌<◌, ◌≤◌, ℕ, ◌+◌, List, [], ◌∷◌, ◌++◌, map, length, drop, get_or, refl, sym, ◌∙◌, ap, arith}
use Rattle.std.specs.Prelude.{Ok, Err}
use Rattle.type_typing.specs.declared.type_err.TypeErr.{TypeErr}
use Rattle.type_typing.specs.declared.type_err.TypeErr.TheVariants.{OutOfMemory}
use Rattle.type_typing.specs.Outcome.{Checked, ◌>>=◌, checked_from}

-- the part at i is next
pub next_part : {A B : Type 0} (f : A → Checked B) (xs : List A) (i : ℕ) (x : A) (done : List B) → i < length xs → x ≡ get_or xs i x → checked_from done (map f (drop i xs)) ≡ (f x >>= (λ y. checked_from (done ++ y ∷ []) (map f (drop (i + 1) xs))))
next_part f [] i x done within is = absurd (omega arith)
next_part {A} {B} f (y ∷ xs) zero x done within is =
    sym (ap (λ (z : A). f z >>= (λ w. checked_from (done ++ w ∷ []) (map f xs))) is)
next_part {A} {B} f (y ∷ xs) (suc i) x done within is =
    let same : suc (i + 1) ≡ suc i + 1 = omega arith in
    next_part f xs i x done (omega arith) is ∙ ap (λ n. f x >>= (λ w. checked_from (done ++ w ∷ []) (map f (drop n (y ∷ xs))))) same

-- no part is left
pub no_part : {A B : Type 0} (f : A → Checked B) (xs : List A) (i : ℕ) (done : List B) → length xs ≤ i → checked_from done (map f (drop i xs)) ≡ Ok done
no_part f [] zero done over = refl
no_part f [] (suc i) done over = refl
no_part f (x ∷ xs) zero done over = absurd (omega arith)
no_part f (x ∷ xs) (suc i) done over = no_part f xs i done (omega arith)

-- a fault of the part at i is one of the whole
pub part_stops : {A B : Type 0} (f : A → Checked B) (xs : List A) (i : ℕ) (x : A) (done : List B) (whole : Checked (List B)) (err : TypeErr) → i < length xs → x ≡ get_or xs i x
    → checked_from done (map f (drop i xs)) ≡ whole → (err ≢ OutOfMemory → f x ≡ Err err) → err ≢ OutOfMemory → whole ≡ Err err
part_stops {A} {B} f xs i x done whole err within is so_far fault ne =
    sym so_far ∙ next_part f xs i x done within is ∙ ap (λ (o : Checked B). o >>= (λ y. checked_from (done ++ y ∷ []) (map f (drop (i + 1) xs)))) (fault ne)

-- the part at i is done too
pub part_goes_on : {A B : Type 0} (f : A → Checked B) (xs : List A) (i : ℕ) (x : A) (done : List B) (whole : Checked (List B)) (one : B) → i < length xs → x ≡ get_or xs i x
    → checked_from done (map f (drop i xs)) ≡ whole → f x ≡ Ok one → checked_from (done ++ one ∷ []) (map f (drop (i + 1) xs)) ≡ whole
part_goes_on {A} {B} f xs i x done whole one within is so_far found =
    sym (ap (λ (o : Checked B). o >>= (λ y. checked_from (done ++ y ∷ []) (map f (drop (i + 1) xs)))) found) ∙ sym (next_part f xs i x done within is) ∙ so_far
