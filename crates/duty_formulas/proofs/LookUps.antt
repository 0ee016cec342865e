-- Look-ups in lists, and what was made of them.
use Rattle.std.proofs.Common.{◌≡◌, refl, sym, ◌∙◌, ap, List, [], ◌∷◌, map, take, length, Bool, Bor}
use Rattle.std.specs.Prelude.{Option, Some, None}
use Rattle.std.specs.List.{find}
use Rattle.std.specs.Option.{option_copied, option_map}
use Rattle.data_records.proofs.Searches.{find-seen}

read_through : {A B : Type 0} (f : A → B) (o : Option (Bor A)) → option_map (λ x. f x.now) o ≡ option_map f (option_copied o)
read_through f None = refl
read_through f (Some x) = refl

-- what is made of an element that is found, and what is found among what is made of all
pub found_seen : {A B : Type 0} (p : B → Bool) (f : A → B) (xs : List A) (o : Option (Bor A)) → option_copied o ≡ find (λ x. p (f x)) xs
    → option_map (λ x. f x.now) o ≡ find p (map f xs)
found_seen p f xs o e = read_through f o ∙ (ap (option_map f) e ∙ sym (find-seen p f xs))

-- all of a list
pub take_all : {A B : Type 0} (f : A → B) (xs : List A) → take (length xs) (map f xs) ≡ map f xs
take_all f [] = refl
take_all f (x ∷ xs) = ap (λ ys. f x ∷ ys) (take_all f xs)
