-- How a request ends that only looks.
use Rattle.std.specs.Prelude.{Result, Ok, Err}
use Rattle.door_meaning.specs.declared.reply.Reply.{Reply}
use Rattle.door_serve.specs.Changing.{ended}
use Rattle.door_serve.specs.declared.door_err.DoorErr.{DoorErr}
use Rattle.door_judge.specs.declared.halt.Halt.{Halt}

abbrev pub looked : Result Reply Halt → Result Reply DoorErr
looked (Ok reply) = Ok reply
looked (Err halt) = ended halt
