-- Where no part gives anything, nothing is given first.
use Rattle.std.proofs.Common.{◌≡◌, Bool, List, [], ◌∷◌, map, refl}
use Rattle.std.specs.Prelude.{Option, None}
use Rattle.std.specs.List.{AllByRecursion, IsDistinct}
use Rattle.data_judge.specs.First.{first_behind, first_given, pushed}
use Rattle.data_read.proofs.Lists.{IsNew, still-new}

pub none-given : {A B : Type 0} (f : A → Option B) (xs : List A) → AllByRecursion (λ x. f x ≡ None) xs → first_given f xs ≡ None
none-given f [] all = refl
none-given f (x ∷ xs) all = rw all.0 (none-given f xs all.1)

module _ {A B K : Type 0} (eq : K → K → Bool) (key : A → K) (f : List A → A → Option B) where
  -- gives nothing behind elements with other keys
  abbrev pub IsCalm : A → Type 0
  IsCalm x = (before : List A) → IsNew eq key before x → f before x ≡ None

  none-from : (before xs : List A) → AllByRecursion IsCalm xs → AllByRecursion (IsNew eq key before) xs → IsDistinct eq (map key xs) → first_behind f pushed before xs ≡ None
  unfolding IsDistinct
  none-from before [] calm new apart = refl
  none-from before (x ∷ xs) calm new apart =
      rw (calm.0 before new.0) (none-from (pushed before x) xs calm.1 (still-new eq key before x xs new.1 apart.0) apart.1)

  all-new : (xs : List A) → AllByRecursion (IsNew eq key []) xs
  all-new [] = tt
  all-new (x ∷ xs) = (refl, all-new xs)

  pub none-behind : (xs : List A) → AllByRecursion IsCalm xs → IsDistinct eq (map key xs) → first_behind f pushed [] xs ≡ None
  none-behind xs calm apart = none-from [] xs calm (all-new xs) apart
