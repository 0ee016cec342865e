-- Causes in their order: the first that is met gives the reply.
use Rattle.std.specs.Prelude.{Bool, Option, None, Some, Result, Ok, Err, if◌then◌else◌}
use Rattle.door_meaning.specs.Replies.{Reply}

-- one stage and then the next: the reply of the first, or what follows for what it passes on
abbrev pub goes : {A B : Type 0} → Result A Reply → (A → Result B Reply) → Result B Reply
goes (Err reply) next = Err reply
goes (Ok x) next = next x

-- the reply where the cause is met
abbrev pub unless : Bool → Reply → Result (Unit {0}) Reply
unless met reply = if met then Err reply else Ok tt

-- the reply, where there is one
abbrev pub stops : Option Reply → Result (Unit {0}) Reply
stops None = Ok tt
stops (Some reply) = Err reply

-- what is found, or the reply where nothing is
abbrev pub finds : {A : Type 0} → Option A → Reply → Result A Reply
finds None reply = Err reply
finds (Some x) reply = Ok x
