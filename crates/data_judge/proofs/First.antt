-- The first that is given of parts in a row, one part after another.
use Rattle.std.proofs.Common.{◌≡◌, ◌∙◌, ℕ, ◌+◌, ◌<◌, ◌≤◌, length, List, get_or, drop, refl}
use Rattle.std.specs.Prelude.{Option, Some, None}
use Rattle.std.specs.Option.{option_or}
use Rattle.std.proofs.lemmas.List.{drop_more, drop_all}
use Rattle.data_judge.specs.First.{first_given, first_behind}

module _ {S A B : Type 0} (f : S → A → Option B) (see : S → A → S) (seen : S) (xs : List A) (i : ℕ) where
  pub behind-step : (d : A) → i < length xs
      → first_behind f see seen (drop i xs) ≡ option_or (f seen (get_or xs i d)) (first_behind f see (see seen (get_or xs i d)) (drop (i + 1) xs))
  behind-step d below = rw (drop_more xs i d below) refl

  pub behind-stops : (d : A) → i < length xs → (b : B) → f seen (get_or xs i d) ≡ Some b → first_behind f see seen (drop i xs) ≡ Some b
  behind-stops d below b e = behind-step d below ∙ rw e refl

  pub behind-goes : (d : A) → i < length xs → f seen (get_or xs i d) ≡ None
      → first_behind f see seen (drop i xs) ≡ first_behind f see (see seen (get_or xs i d)) (drop (i + 1) xs)
  behind-goes d below e = behind-step d below ∙ rw e refl

  pub behind-ends : length xs ≤ i → first_behind f see seen (drop i xs) ≡ None
  behind-ends over = rw (drop_all i xs over) refl

module _ {A B : Type 0} (f : A → Option B) (xs : List A) (i : ℕ) where
  pub given-step : (d : A) → i < length xs → first_given f (drop i xs) ≡ option_or (f (get_or xs i d)) (first_given f (drop (i + 1) xs))
  given-step d below = rw (drop_more xs i d below) refl

  pub given-stops : (d : A) → i < length xs → (b : B) → f (get_or xs i d) ≡ Some b → first_given f (drop i xs) ≡ Some b
  given-stops d below b e = given-step d below ∙ rw e refl

  pub given-goes : (d : A) → i < length xs → f (get_or xs i d) ≡ None → first_given f (drop i xs) ≡ first_given f (drop (i + 1) xs)
  given-goes d below e = given-step d below ∙ rw e refl

  pub given-ends : length xs ≤ i → first_given f (drop i xs) ≡ None
  given-ends over = rw (drop_all i xs over) refl
