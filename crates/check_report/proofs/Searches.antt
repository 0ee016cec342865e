-- Searches in lists that were made from others, and in two lists in a row.
use Rattle.std.proofs.Common.{◌≡◌, ℕ, zero, suc, ◌+◌, get_or, sym, ◌∙◌, Bool, true, false, not, List, [], ◌∷◌, ◌++◌, map, refl, ap, cond}
use Rattle.std.specs.Prelude.{Option, Some, None, option_and_then, position}
use Rattle.std.specs.List.{find, position_or_len}
use Rattle.std.specs.Option.{option_map, option_map_or}
use Rattle.std.proofs.lemmas.List.{length-map}
pub use Rattle.data_records.proofs.Searches.{find-seen}

places : {A B : Type 0} (p : B → Bool) (g : A → B) (xs : List A) → position_or_len p (map g xs) ≡ position_or_len (λ x. p (g x)) xs
places p g [] = refl
places p g (x ∷ xs) = ap (λ n. cond (not (p (g x))) (1 + n) 0) (places p g xs)

pub position_of_map : {A B : Type 0} (p : B → Bool) (g : A → B) (xs : List A) → position p (map g xs) ≡ position (λ x. p (g x)) xs
position_of_map p g xs = rw (places p g xs, length-map xs g) refl

pub find_in_both : {A : Type 0} (p : A → Bool) (xs ys : List A) (x : A) → find p xs ≡ Some x → find p (xs ++ ys) ≡ Some x
find_in_both p [] ys x e = cc
find_in_both {A} p (z ∷ xs) ys x e =
    elim (p z) as (λ (b : Bool). cond b (Some z) (find p xs) ≡ Some x → cond b (Some z) (find p (xs ++ ys)) ≡ Some x) [
      | true ↦ λ h. h
      | false ↦ λ h. find_in_both p xs ys x h
    ] e

pub find_behind : {A : Type 0} (p : A → Bool) (xs ys : List A) → find p xs ≡ None → find p (xs ++ ys) ≡ find p ys
find_behind p [] ys e = refl
find_behind {A} p (z ∷ xs) ys e =
    elim (p z) as (λ (b : Bool). cond b (Some z) (find p xs) ≡ None → cond b (Some z) (find p (xs ++ ys)) ≡ find p ys) [
      | true ↦ λ h. cc
      | false ↦ λ h. find_behind p xs ys h
    ] e

-- what is found in a list, and what is taken of it
pub looked-up : {A B C : Type 0} (p : B → Bool) (f : A → B) (g : B → C) (d : C) (xs : List A) (o : Option A) → o ≡ find (λ x. p (f x)) xs
    → option_map_or g (find p (map f xs)) d ≡ option_map_or (λ x. g (f x)) o d
looked-up {A} {B} {C} p f g d xs o e = ap (λ q. option_map_or g q d) (find-seen p f xs ∙ ap (option_map f) (sym e)) ∙ go o
  where
    go : (o : Option A) → option_map_or g (option_map f o) d ≡ option_map_or (λ x. g (f x)) o d
    go None = refl
    go (Some x) = refl

pub looked-further : {A B C : Type 0} (p : B → Bool) (f : A → B) (g : B → Option C) (xs : List A) (o : Option A) → o ≡ find (λ x. p (f x)) xs
    → option_and_then g (find p (map f xs)) ≡ option_and_then (λ x. g (f x)) o
looked-further {A} {B} {C} p f g xs o e = ap (option_and_then g) (find-seen p f xs ∙ ap (option_map f) (sym e)) ∙ go o
  where
    go : (o : Option A) → option_and_then g (option_map f o) ≡ option_and_then (λ x. g (f x)) o
    go None = refl
    go (Some x) = refl

pub read-through : {A B : Type 0} (f : A → B) (xs : List A) (k : ℕ) (d : A) → get_or (map f xs) k (f d) ≡ f (get_or xs k d)
read-through f [] zero d = refl
read-through f [] (suc k) d = refl
read-through f (x ∷ xs) zero d = refl
read-through f (x ∷ xs) (suc k) d = read-through f xs k d
