-- What a script that was checked comes to.
use Rattle.std.specs.Prelude.{◌≡◌, ◌<◌, ◌⊎◌, ℕ, List, [], ◌∷◌, Option, None, Result, Ok, Err}
use Rattle.app_flow.specs.Files.{Files}
use Rattle.app_files.specs.declared.answer.Checked.{Checked}
use Rattle.app_files.specs.Stages.{Inside, Next}
use Rattle.app_store.specs.Answer.{ChecksScript}
use Rattle.app_store.specs.Calls.{Call, Fetch}
use Rattle.app_store.specs.Stages.{StorePart}
use Rattle.app_store.specs.Store.{MayRise}
use Rattle.store_keeper.specs.declared.keeper.KeepCall.{KeepCall}
use Rattle.store_keeper.specs.declared.keeper.KeepCall.TheVariants.{Replace}
use Rattle.store_keeper.specs.Stored.{Stored, last_version}
use Rattle.door_meaning.specs.declared.reply.Reply as code
use Rattle.door_meaning.specs.Replies.{reply_data}
use Rattle.door_meaning.specs.Sessions.{Outcome}
use Rattle.door_meaning.specs.State.{State}
use Rattle.door_serve.specs.declared.door_err.DoorErr.{DoorErr}
use Rattle.door_serve.specs.declared.door_err.DoorErr.TheVariants.{ReadFault, StoreFault, OutOfMemory}

-- The version can rise, and the file is a script over what is stored, which is checked: the first stages of `migrate`.
abbrev pub AsksScript : Option Files → Stored → List ℕ → StorePart Checked
AsksScript files s name =
    Next (Inside (MayRise s)) (λ held. ChecksScript (record { files = files; content = None }) name held.schema)

-- The calls of the shelf that `migrate` may make, whatever comes of them: none; or the fetch of the file, where the version can rise.
abbrev pub MigrationMayFetch : State → List ℕ → List Call → Type 0
MigrationMayFetch st name calls = (calls ≡ []) ⊎ ((st.stored.version < last_version) × (calls ≡ Fetch name ∷ []))

-- What was made of outcomes of this kind: one is answered, with nothing to store; or the store took what the door keeps then, at a later version;
-- or it did not take it, and the door is as it was; or a fault of the shelf or want of memory came before, and the door is as it was.
pub data IsCarried (Comes : Outcome → Type 0) (st : State) (made : List KeepCall) (result : Result code.Reply DoorErr) (after : State) : Type 0 where
  Said : (answer : code.Reply) → Comes (record { reply = reply_data answer; state = st }) → made ≡ [] → result ≡ Ok answer → after ≡ st → IsCarried Comes st made result after
  Kept : (answer : code.Reply) → Comes (record { reply = reply_data answer; state = after }) → st.stored.version < after.stored.version → made ≡ Replace ∷ [] → result ≡ Ok answer
      → IsCarried Comes st made result after
  Lost : (outcome : Outcome) → Comes outcome → st.stored.version < outcome.state.stored.version → made ≡ Replace ∷ [] → (result ≡ Err StoreFault) ⊎ (result ≡ Err OutOfMemory) → after ≡ st
      → IsCarried Comes st made result after
  Stopped : made ≡ [] → (result ≡ Err ReadFault) ⊎ (result ≡ Err OutOfMemory) → after ≡ st → IsCarried Comes st made result after
