-- What is found in a list, as the code has it and in its plain data.
use Rattle.std.proofs.Common.{◌≡◌, Bool, true, false, cond, List, [], ◌∷◌, map, refl}
use Rattle.std.specs.Prelude.{Some, option_map}
use Rattle.std.specs.List.{find}

pub find-seen : {A B : Type 0} (f : A → B) (p : B → Bool) (xs : List A) → option_map f (find (λ x. p (f x)) xs) ≡ find p (map f xs)
find-seen f p [] = refl
find-seen {A} {B} f p (x ∷ xs) =
    elim (p (f x)) as (λ b. option_map f (cond b (Some x) (find (λ y. p (f y)) xs)) ≡ cond b (Some (f x)) (find p (map f xs)))
    [ true ↦ refl | false ↦ find-seen f p xs ]
