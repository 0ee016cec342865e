-- Requests that change records, by what they do to the store.
use Rattle.std.specs.Prelude.{◌≡◌, ◌≢◌, ◌⊎◌, ℕ, ◌==◌, ◌∷◌, [], List, Option, Result, Ok, Err, OnErr, OnOk}
use Rattle.std.specs.List.{find}
use Rattle.app_store.specs.Told.{IsKept}
use Rattle.store_keeper.specs.declared.keeper.KeepCall.{KeepCall}
use Rattle.store_keeper.specs.Content.{Content, changed, replaced}
use Rattle.store_keeper.specs.Stored.{Stored, IsStored}
use Rattle.data_meaning.specs.Database.{Record, Database, records_of}
use Rattle.data_records.specs.Rows.{slots_from}
use Rattle.door_judge.specs.declared.halt.Halt.{Halt}
use Rattle.door_judge.specs.declared.halt.Halt.TheVariants as halt
use Rattle.door_meaning.specs.declared.reply.Reply as code
use Rattle.door_meaning.specs.Records.{Making}
use Rattle.door_meaning.specs.Replies.{reply_data}
use Rattle.door_meaning.specs.Sessions.{Outcome}
use Rattle.door_meaning.specs.State.{State}
use Rattle.door_serve.specs.Doing.{IsAsked}
use Rattle.door_serve.specs.declared.door_err.DoorErr.{DoorErr}
use Rattle.door_serve.specs.declared.door_err.DoorErr.TheVariants as err

-- how a request ends that goes no further
abbrev pub ended : Halt → Result code.Reply DoorErr
ended (halt.Replied reply) = Ok reply
ended halt.OutOfMemory = Err err.OutOfMemory

-- ---- records that are made

abbrev pub made_record : Making → Record
made_record made = record { id = made.id; slots = slots_from made.info.fields made.row }

abbrev pub record_at : Database → (m id : ℕ) → Option Record
record_at d m id = find (λ r. r.id == id) (records_of d m)

-- ---- the store

-- One call was made of a store, which changed what it holds, or gave no answer.
pub record Keeps {K A : Type 0} (content : K → Content) (kept : K → Option (List KeepCall)) (unkept : K → ℕ) (change : Stored → Stored) (call : KeepCall) (store store_after : K) (end : Result A DoorErr) : Type 0 where
  pub kept_so : IsKept kept unkept store store_after (call ∷ []) (end ≡ Err err.StoreFault)
  pub done : OnOk end (content store_after ≡ changed change (content store))
  pub same : OnErr end (content store_after ≡ content store)
  pub not_read : end ≢ Err err.ReadFault

-- What a request on records came to, of which this is the outcome, and the calls of the store that were made for it.
abbrev pub EndsBy : Outcome → State → List KeepCall → Result code.Reply DoorErr → State → Type 0
EndsBy outcome st made (Ok answer) after = (reply_data answer ≡ outcome.reply) × (after ≡ outcome.state) × IsAsked st outcome made
EndsBy outcome st made (Err e) after = (after ≡ st) × (e ≢ err.ReadFault) × ((made ≡ []) ⊎ IsAsked st outcome made)

pub record Changes {K : Type 0} (content : K → Content) (kept : K → Option (List KeepCall)) (unkept : K → ℕ) (outcome : Outcome) (st : State) (store store_after : K) (end : Result code.Reply DoorErr) (after : State) : Type 0 where
  pub made : List KeepCall
  pub ends : EndsBy outcome st made end after
  pub kept_so : IsKept kept unkept store store_after made (end ≡ Err err.StoreFault)
  pub told : content store_after ≡ replaced after.stored (content store)
  pub stored : IsStored after.stored
