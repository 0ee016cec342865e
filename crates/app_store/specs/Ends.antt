-- How a run of a command over the store ends.
use Rattle.std.specs.Prelude.{◌≡◌, ◌⊎◌, ℕ, List, [], ◌∷◌, ◌++◌, Option, Some, None, Err}
use Rattle.app_files.specs.declared.stop.Stop.TheVariants as stop
use Rattle.app_files.specs.declared.status.Status.{Status}
use Rattle.app_files.specs.declared.status.Status.TheVariants.{ReadFault, StoreFault, OutOfMemory}
use Rattle.app_files.specs.Ends.{IsReported}
use Rattle.store_keeper.specs.declared.keeper.KeepCall.TheVariants.{Replace}
use Rattle.store_keeper.specs.Content.{Content, replaced}
use Rattle.store_keeper.specs.Stored as plain
use Rattle.app_store.specs.declared.answer.StoreAnswer.{StoreAnswer}
use Rattle.app_store.specs.declared.stop.StoreStop.{StoreStop}
use Rattle.app_store.specs.declared.stop.StoreStop.TheVariants as store
use Rattle.app_store.specs.Answer.{Runs, end_of, stored_by, status_of, text_of}
use Rattle.app_store.specs.Calls.{Call, Keep}
use Rattle.app_store.specs.Told.{Told}
use Rattle.app_store.specs.Words.{Command}

-- The run ends so where a fault or want of memory stopped its stages.
abbrev pub IsStoppedBy : StoreStop → Status → Type 0
IsStoppedBy (store.Files (stop.Refused refusal)) status = ⊥
IsStoppedBy (store.Files stop.ReadFault) status = status ≡ ReadFault
IsStoppedBy (store.Files stop.OutOfMemory) status = status ≡ OutOfMemory
IsStoppedBy (store.Refused refusal) status = ⊥
IsStoppedBy store.StoreFault status = status ≡ StoreFault

module _ (told : Told) (command : Command) (calls : List Call) (content : Content) (before after : Option (List ℕ)) (status : Status) where
  -- The command is answered with nothing to store: the report is put out, and the store holds what it held.
  pub record Reports : Type 0 where
    pub answer : StoreAnswer
    pub is_answer : Runs told command calls (end_of answer)
    pub nothing_to_store : stored_by answer ≡ None
    pub kept : content ≡ told.content
    pub reported : IsReported (text_of answer) (status_of answer) before after status

  -- The command is answered, and the stages made all calls but the last, which stores this.
  pub record Stores : Type 0 where
    pub answer : StoreAnswer
    pub stored : plain.Stored
    pub asked : List Call
    pub is_answer : Runs told command asked (end_of answer)
    pub to_store : stored_by answer ≡ Some stored
    pub called : calls ≡ asked ++ Keep Replace ∷ []

  pub data Ends : Type 0 where
    Reported : Reports → Ends
    -- it is stored, and only then the report is put out
    Stored : (s : Stores) → content ≡ replaced s.stored told.content → IsReported (text_of s.answer) (status_of s.answer) before after status → Ends
    -- the store did not take it, and holds what it held
    Unstored : Stores → (status ≡ StoreFault) ⊎ (status ≡ OutOfMemory) → content ≡ told.content → Ends
    -- there was not enough memory for the report, which is made before anything is stored
    NoReport : (answer : StoreAnswer) → Runs told command calls (end_of answer) → status ≡ OutOfMemory → content ≡ told.content → Ends
    -- a fault or want of memory stopped the stages
    Stopped : (why : StoreStop) → Runs told command calls (Err why) → IsStoppedBy why status → content ≡ told.content → Ends
