-- An answer that is the outcome is so where memory is missing, too.
use Rattle.std.proofs.Common.{◌≡◌, sym}
use Rattle.std.specs.Prelude.{Ok, Err}
use Rattle.type_typing.specs.Outcome.{Checked}
use Rattle.type_specs.specs.InTurn.{GivesSeen, seen_as}

pub seen_gives : {A B : Type 0} (seen : A → B) (outcome : Checked B) (answer : Checked A) → seen_as seen answer ≡ outcome → GivesSeen seen outcome answer
seen_gives seen outcome (Ok a) is = sym is
seen_gives seen outcome (Err e) is = λ _. sym is
