-- The texts of a list that was made from another.
use Rattle.std.proofs.Common.{◌≡◌, List, [], ◌∷◌, ◌++◌, map, refl, ap}
use Rattle.std.specs.List.{flat_map, join_by}

pub flat_map_of_map : {A B C : Type 0} (f : B → List C) (g : A → B) (xs : List A) → flat_map f (map g xs) ≡ flat_map (λ x. f (g x)) xs
flat_map_of_map f g [] = refl
flat_map_of_map f g (x ∷ xs) = ap (λ z. f (g x) ++ z) (flat_map_of_map f g xs)

pub join_by_of_map : {A B C : Type 0} (f : B → List C) (sep : List C) (g : A → B) (xs : List A) → join_by f sep (map g xs) ≡ join_by (λ x. f (g x)) sep xs
join_by_of_map f sep g [] = refl
join_by_of_map f sep g (x ∷ xs) = ap (λ z. f (g x) ++ z) (flat_map_of_map (λ y. sep ++ f y) g xs)
