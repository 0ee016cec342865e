-- What is refused before memory is asked for.
use Rattle.std.specs.Prelude.{◌≡◌, Err}
use Rattle.type_typing.specs.declared.type_err.TypeErr.{TypeErr}
use Rattle.type_typing.specs.Outcome.{Checked}

-- A fault of what is asked is the answer, however much memory there is.
abbrev pub Refuses : {A B : Type 0} → Checked A → Checked B → Type 0
Refuses asked answer = (e : TypeErr) → asked ≡ Err e → answer ≡ Err e
