-- What a line came to, and the calls that were made for it.
use Rattle.std.specs.Prelude.{◌≡◌, ◌<◌, ◌⊎◌, ℕ, true, List, [], ◌∷◌, Option, Result, Ok, Err}
use Rattle.std.specs.List.{flat_map}
use Rattle.app_flow.specs.Files.{Files}
use Rattle.app_flow.specs.Outside.{IsRead}
use Rattle.app_store.specs.Calls.{Call, fetched_by}
use Rattle.app_store.specs.Told.{IsKept}
use Rattle.door_meaning.specs.declared.reply.Reply as code
use Rattle.door_meaning.specs.Replies.{reply_data, tells_change}
use Rattle.door_meaning.specs.Sessions.{Outcome}
use Rattle.door_meaning.specs.State.{State}
use Rattle.store_keeper.specs.declared.keeper.KeepCall.{KeepCall}
use Rattle.store_keeper.specs.declared.keeper.KeepCall.TheVariants.{DropRow, Put, Replace}
use Rattle.store_keeper.specs.Content.{Content, replaced}
use Rattle.store_keeper.specs.Stored.{IsStored}
use Rattle.door_serve.specs.declared.door_err.DoorErr.{DoorErr}
use Rattle.door_serve.specs.declared.door_err.DoorErr.TheVariants.{ReadFault, StoreFault}

-- The calls of the store that go with an outcome: none, and what is stored is as it was; or one of a record, whose change the answer tells; or
-- one of all that is stored, whose version rose, and the answer tells that.
pub data IsAsked (st : State) (outcome : Outcome) (made : List KeepCall) : Type 0 where
  Never : made ≡ [] → outcome.state.stored ≡ st.stored → IsAsked st outcome made
  Puts : made ≡ Put ∷ [] → tells_change outcome.reply ≡ true → IsAsked st outcome made
  Drops : made ≡ DropRow ∷ [] → tells_change outcome.reply ≡ true → IsAsked st outcome made
  Replaces : made ≡ Replace ∷ [] → st.stored.version < outcome.state.stored.version → tells_change outcome.reply ≡ true → IsAsked st outcome made

-- It is answered, and the door keeps what goes with the answer; or a fault or want of memory left it without an answer, and the door is as it was:
-- the store was not called, or as for an outcome of the line.
abbrev pub Ends : (List Call → Outcome → Type 0) → State → List Call → List KeepCall → Result code.Reply DoorErr → State → Type 0
Ends answers st calls made (Ok answer) after =
    (outcome : Outcome) × answers calls outcome × (reply_data answer ≡ outcome.reply) × (after ≡ outcome.state) × IsAsked st outcome made
Ends answers st calls made (Err err) after = (after ≡ st) × ((made ≡ []) ⊎ ((outcome : Outcome) × answers calls outcome × IsAsked st outcome made))

-- What was done: these calls of the shelf and of the store were made, no other file was fetched than may be, whatever it came to, and the store,
-- where it tells that, holds what the door keeps.
pub record Does {F K : Type 0} (files : F → Option Files) (fetched : F → Option (List (List ℕ))) (unread : F → ℕ) (content : K → Content) (kept : K → Option (List KeepCall)) (unkept : K → ℕ) (may_fetch : List Call → Type 0) (answers : List Call → Outcome → Type 0) (st : State) (shelf shelf_after : F) (store store_after : K) (end : Result code.Reply DoorErr) (after : State) : Type 0 where
  pub calls : List Call
  pub made : List KeepCall
  pub fetches : may_fetch calls
  pub ends : Ends answers st calls made end after
  pub read : IsRead files fetched unread shelf shelf_after (flat_map fetched_by calls) (end ≡ Err ReadFault)
  pub kept_so : IsKept kept unkept store store_after made (end ≡ Err StoreFault)
  pub told : content store_after ≡ replaced after.stored (content store)
  pub stored : IsStored after.stored
