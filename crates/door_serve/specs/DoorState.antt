-- What contracts see of a door.
use Rattle.std.specs.Prelude.{◌≡◌}
use Rattle.store_keeper.specs.Stored.{stored_of}
use Rattle.door_serve.specs.declared.door.Door.{Door}
use Rattle.door_meaning.specs.Replies.{reply_data}
use Rattle.door_meaning.specs.declared.reply.Reply as reply
use Rattle.door_meaning.specs.Sessions.{Outcome}
use Rattle.door_meaning.specs.State.{State}

-- the plain data that a door stands for
abbrev pub state_of : Door → State
state_of d = record { stored = stored_of d.stored; sessions = d.sessions }

-- This is answered, and the door keeps this.
pub record Gives (outcome : Outcome) (answer : reply.Reply) (after : Door) : Type 0 where
  pub replied : reply_data answer ≡ outcome.reply
  pub kept : state_of after ≡ outcome.state
