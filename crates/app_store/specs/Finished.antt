-- What is done with an answer: its report is made, what it is to store is stored, and then the report is put out.
use Rattle.std.specs.Prelude.{◌≡◌, ◌⊎◌, ℕ, List, [], ◌∷◌, Option, Some, None}
use Rattle.app_files.specs.declared.status.Status.{Status}
use Rattle.app_files.specs.declared.status.Status.TheVariants.{Done, StoreFault, OutOfMemory}
use Rattle.app_files.specs.Ends.{IsReported}
use Rattle.store_keeper.specs.declared.keeper.KeepCall.{KeepCall}
use Rattle.store_keeper.specs.declared.keeper.KeepCall.TheVariants.{Replace}
use Rattle.store_keeper.specs.Content.{Content, replaced}
use Rattle.store_keeper.specs.Stored as plain
use Rattle.app_store.specs.declared.answer.StoreAnswer.{StoreAnswer}
use Rattle.app_store.specs.Answer.{stored_by, status_of, text_of}

-- This was to be stored: it is, and then the report is put out; or the store did not take it.
pub data IsKeptAndPut (content content_after : Content) (s : plain.Stored) (report : List ℕ) (before after : Option (List ℕ)) (status : Status) : Type 0 where
  Taken : content_after ≡ replaced s content → IsReported report Done before after status → IsKeptAndPut content content_after s report before after status
  Left : content_after ≡ content → (status ≡ StoreFault) ⊎ (status ≡ OutOfMemory) → IsKeptAndPut content content_after s report before after status

-- The report found no memory; or it is put out, and nothing is to be stored; or what is to be stored is stored before; or the store did not take
-- it.
pub data IsFinished (a : StoreAnswer) (content content_after : Content) (made : List KeepCall) (before after : Option (List ℕ)) (status : Status) : Type 0 where
  NoMemory : status ≡ OutOfMemory → made ≡ [] → content_after ≡ content → IsFinished a content content_after made before after status
  Said : stored_by a ≡ None → made ≡ [] → content_after ≡ content → IsReported (text_of a) (status_of a) before after status → IsFinished a content content_after made before after status
  Kept : (s : plain.Stored) → stored_by a ≡ Some s → made ≡ Replace ∷ [] → content_after ≡ replaced s content → IsReported (text_of a) (status_of a) before after status
      → IsFinished a content content_after made before after status
  Lost : (s : plain.Stored) → stored_by a ≡ Some s → made ≡ Replace ∷ [] → content_after ≡ content → (status ≡ StoreFault) ⊎ (status ≡ OutOfMemory)
      → IsFinished a content content_after made before after status
