-- What a line that was read came to.
use Rattle.std.specs.Prelude.{◌≡◌, ◌⊎◌, ℕ, List, Option, Result, Ok, Err}
use Rattle.app_flow.specs.Files.{Files}
use Rattle.app_flow.specs.Told.{Appends, AppendsFront}
use Rattle.app_store.specs.Calls.{Call}
use Rattle.door_meaning.specs.Replies.{reply_text}
use Rattle.door_meaning.specs.Sessions.{Outcome}
use Rattle.door_meaning.specs.State.{State}
use Rattle.door_meaning.specs.Step.{DoorStep, Line, LineMayFetch}
use Rattle.store_keeper.specs.Content.{Content, replaced}
use Rattle.app_serve.specs.declared.serve_err.ServeErr.{ServeErr}
use Rattle.app_serve.specs.declared.serve_err.ServeErr.TheVariants.{ReadFault, WriteFault, StoreFault, OutOfMemory}

-- The door answered it, with these calls of the shelf, and the store holds what the door keeps then; the reply was put out, or a front of it where
-- the output met a fault. Or a fault or want of memory left it without a reply: nothing is put out, the store holds what it held,
-- and no other file was fetched than the line may ask for.
pub data IsReplied (no_file no_output no_store : Type 0) (files : Option Files) (st after : State) (line : Line) (calls : List Call) (content content_after : Content) (told told_after : Option (List ℕ)) {A : Type 0} (answered : A) (result : Result A ServeErr) : Type 0 where
  Put : (outcome : Outcome) → DoorStep files st line calls outcome → after ≡ outcome.state → content_after ≡ replaced outcome.state.stored content → result ≡ Ok answered
      → Appends told told_after (reply_text outcome.reply) → IsReplied no_file no_output no_store files st after line calls content content_after told told_after answered result
  Cut : (outcome : Outcome) → DoorStep files st line calls outcome → after ≡ outcome.state → content_after ≡ replaced outcome.state.stored content → result ≡ Err WriteFault → no_output
      → AppendsFront told told_after (reply_text outcome.reply) → IsReplied no_file no_output no_store files st after line calls content content_after told told_after answered result
  Unanswered : LineMayFetch st line calls → content_after ≡ content → told_after ≡ told → (((result ≡ Err ReadFault) × no_file) ⊎ ((result ≡ Err StoreFault) × no_store) ⊎ (result ≡ Err OutOfMemory))
      → IsReplied no_file no_output no_store files st after line calls content content_after told told_after answered result
