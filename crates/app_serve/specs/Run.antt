-- A run of `serve`, all of it in one.
use Rattle.std.specs.Prelude.{◌≡◌, ◌≢◌, ◌≤◌, ◌⊎◌, ℕ, List, [], ◌∷◌, ◌++◌, length, Option, IfSome, Ok, Err}
use Rattle.std.specs.Io.KnownBytes.{IsAtEnd}
use Rattle.std.specs.List.{flat_map}
use Rattle.app_flow.specs.Faults.{Rose}
use Rattle.app_flow.specs.Files.{Files}
use Rattle.app_flow.specs.Outside.{IsRead, IsWritten}
use Rattle.app_flow.specs.Told.{Appends, AppendsFront}
use Rattle.app_files.specs.declared.status.Status.{Status}
use Rattle.app_files.specs.declared.status.Status.TheVariants.{Done, WriteFault, StoreFault, OutOfMemory}
use Rattle.app_files.specs.Ends.{IsReported, IsSilent}
use Rattle.app_files.specs.Stages.{Then}
use Rattle.app_store.specs.declared.stop.StoreRefusal.{StoreRefusal}
use Rattle.app_store.specs.declared.stop.StoreStop.{StoreStop}
use Rattle.app_store.specs.declared.stop.StoreStop.TheVariants as why
use Rattle.app_store.specs.Answer.{store_refusal_status}
use Rattle.app_store.specs.Calls.{Call, fetched_by}
use Rattle.app_store.specs.Ends.{IsStoppedBy}
use Rattle.app_store.specs.Report.{store_refusal_text}
use Rattle.app_store.specs.Store.{Loads, Holds}
use Rattle.app_store.specs.Told.{IsKept}
use Rattle.door_meaning.specs.State.{State}
use Rattle.store_keeper.specs.declared.keeper.KeepCall.{KeepCall}
use Rattle.store_keeper.specs.declared.keeper.KeepCall.TheVariants.{Load}
use Rattle.store_keeper.specs.Content.{Content, replaced}
use Rattle.store_keeper.specs.Stored.{Stored}
use Rattle.app_serve.specs.Lines.{IsFrontOf, lines_of}
use Rattle.app_serve.specs.Served.{AreAnswered, IsEnd}

-- The shelf holds `files`, tells what was `fetched` and counted `unread` faults; the input has `left` bytes and counted `unfed` ones; the store
-- holds `content`, tells the calls that `kept` it and counted `unkept` ones; the output `told` its bytes and counted `unwritten` ones; each as it
-- was before and as it is after.
module _ {F S K W : Type 0} (files : F → Option Files) (fetched : F → Option (List (List ℕ))) (unread : F → ℕ) (left : S → Option (List ℕ)) (unfed : S → ℕ) (content : K → Content) (kept : K → Option (List KeepCall)) (unkept : K → ℕ) (told : W → Option (List ℕ)) (unwritten : W → ℕ) (shelf shelf_after : F) (input input_after : S) (store store_after : K) (out out_after : W) (status : Status) where
  -- The store held s. Lines were answered: the first ones of the input, and all of them where the run is done. The store holds what the one run of
  -- the door over them leaves. Their replies were put out, one after another, or, where the output met a fault, a front of that.
  pub record IsServed (s : Stored) : Type 0 where
    pub bytes : List ℕ
    pub lines : List (List ℕ)
    pub rest : List ℕ
    pub calls : List Call
    pub text : List ℕ
    pub last : State
    pub answered : AreAnswered (files shelf) s (left input) (left input_after) bytes lines rest calls text last
    pub first : IfSome (left input) (λ all. IsFrontOf lines (lines_of all))
    pub whole : status ≡ Done → IfSome (left input) (λ all. lines ≡ lines_of all)
    pub stored : content store_after ≡ replaced last.stored (content store)
    pub put : status ≢ WriteFault → Appends (told out) (told out_after) text
    pub cut : status ≡ WriteFault → AppendsFront (told out) (told out_after) text
    pub end : IsEnd (Rose (unread shelf) (unread shelf_after)) (Rose (unfed input) (unfed input_after)) (Rose (unwritten out) (unwritten out_after)) (Rose (unkept store) (unkept store_after)) (IsAtEnd (left input_after)) (length (bytes ++ rest)) rest status
    -- the names that the lines fetched, and then perhaps the one of a line that a fault or want of memory left without a reply
    pub more : List (List ℕ)
    pub few_more : (more ≡ []) ⊎ (IsSilent status × ((name : List ℕ) × (more ≡ name ∷ [])))
    pub read : IsRead files fetched unread shelf shelf_after (flat_map fetched_by calls ++ more) ⊥
    pub fed : unfed input ≤ unfed input_after
    pub written : unwritten out ≤ unwritten out_after

  -- The report is put out where the store is refused, and nothing where it gave no answer.
  pub data IsTold (reason : StoreStop) : Type 0 where
    Reported : (refusal : StoreRefusal) → reason ≡ why.Refused refusal → IsReported (store_refusal_text refusal) (store_refusal_status refusal) (told out) (told out_after) status → IsTold reason
    NoReport : (refusal : StoreRefusal) → reason ≡ why.Refused refusal → status ≡ OutOfMemory → IsTold reason
    Stopped : IsStoppedBy reason status → IsTold reason

  -- The store holds nothing, or it met a fault, or there was no memory: nothing is served.
  pub record IsUnserved (reason : StoreStop) : Type 0 where
    pub told_so : IsTold reason
    pub shelf_same : shelf_after ≡ shelf
    pub input_same : input_after ≡ input
    pub content_same : content store_after ≡ content store
    pub written : IsWritten unwritten out out_after (IsSilent status) (status ≡ WriteFault)

  -- The store was asked first, and lines were answered over what it holds; or nothing was served.
  pub data ServeEnds : Type 0 where
    Served : (s : Stored) → Then (Loads (content store)) Holds (Ok s) → IsServed s → ServeEnds
    Unserved : (reason : StoreStop) → Then (Loads (content store)) Holds (Err reason) → IsUnserved reason → ServeEnds

  -- `serve` came to this status. The store was asked first what it holds.
  pub record IsServeRun : Type 0 where
    pub ends : ServeEnds
    pub made : List KeepCall
    pub kept_so : IsKept kept unkept store store_after (Load ∷ made) (status ≡ StoreFault)
