-- What typing gives: the typed thing, or the first fault.
use Rattle.std.specs.Prelude.{◌≡◌, ◌≢◌, List, [], ◌∷◌, ◌++◌, Option, Some, None, Result, Ok, Err}
use Rattle.type_typing.specs.declared.type_err.TypeErr.{TypeErr}
use Rattle.type_typing.specs.declared.type_err.TypeErr.TheVariants.{OutOfMemory}

abbrev pub Checked : Type 0 → Type 0
Checked A = Result A TypeErr

-- a fault of the first part is one of the whole
abbrev pub and_then : {A B : Type 0} → Checked A → (A → Checked B) → Checked B
and_then (Ok a) f = f a
and_then (Err e) f = Err e

infixl 10 ◌>>=◌
abbrev pub ◌>>=◌ : {A B : Type 0} → Checked A → (A → Checked B) → Checked B
first >>= f = and_then first f

abbrev pub or_else : {A : Type 0} → Option A → TypeErr → Checked A
or_else (Some a) e = Ok a
or_else None e = Err e

-- each of the parts, from the left, behind those that are done
abbrev pub checked_from : {A : Type 0} → List A → List (Checked A) → Checked (List A)
checked_from done [] = Ok done
checked_from done (first ∷ rest) = first >>= (λ a. checked_from (done ++ a ∷ []) rest)

abbrev pub all_checked : {A : Type 0} → List (Checked A) → Checked (List A)
all_checked parts = checked_from [] parts

-- The answer is the outcome, unless memory is missing.
abbrev pub Gives : {A : Type 0} → Checked A → Checked A → Type 0
Gives outcome (Ok a) = outcome ≡ Ok a
Gives outcome (Err e) = e ≢ OutOfMemory → outcome ≡ Err e
