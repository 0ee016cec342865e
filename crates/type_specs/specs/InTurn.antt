-- Parts that may be at fault, one after the other: the first fault is the answer.
use Rattle.std.specs.Prelude.{◌≡◌, ◌≢◌, List, [], ◌∷◌, Ok, Err}
use Rattle.type_typing.specs.declared.type_err.TypeErr.TheVariants.{OutOfMemory}
use Rattle.type_typing.specs.Outcome.{Checked, ◌>>=◌}

-- each part in turn, over what the parts before it gave
abbrev pub in_turn : {S A : Type 0} → (S → A → Checked S) → S → List A → Checked S
in_turn add s [] = Ok s
in_turn add s (part ∷ rest) = add s part >>= (λ after. in_turn add after rest)

-- no part is at fault
abbrev pub all_hold : List (Checked (Unit {0})) → Checked (Unit {0})
all_hold [] = Ok tt
all_hold (part ∷ rest) = part >>= (λ _. all_hold rest)

-- The answer, seen as plain data, is the outcome, unless memory is missing.
abbrev pub GivesSeen : {A B : Type 0} → (A → B) → Checked B → Checked A → Type 0
GivesSeen seen outcome (Ok a) = outcome ≡ Ok (seen a)
GivesSeen seen outcome (Err e) = e ≢ OutOfMemory → outcome ≡ Err e

-- the answer, with what it gives seen as plain data
abbrev pub seen_as : {A B : Type 0} → (A → B) → Checked A → Checked B
seen_as seen (Ok a) = Ok (seen a)
seen_as seen (Err e) = Err e

-- What was changed is the outcome. A fault is the answer, unless memory is missing.
abbrev pub Becomes : {S : Type 0} → Checked S → S → Checked (Unit {0}) → Type 0
Becomes outcome after (Ok _) = outcome ≡ Ok after
Becomes outcome after (Err e) = e ≢ OutOfMemory → outcome ≡ Err e
