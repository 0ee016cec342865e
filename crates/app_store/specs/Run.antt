-- A run of a command over the store, all of it in one.
use Rattle.std.specs.Prelude.{◌≡◌, ◌≢◌, ℕ, List, Option}
use Rattle.std.specs.List.{flat_map}
use Rattle.app_flow.specs.Files.{Files}
use Rattle.app_flow.specs.Outside.{IsRead, IsWritten}
use Rattle.app_files.specs.declared.status.Status.{Status}
use Rattle.app_files.specs.declared.status.Status.TheVariants.{ReadFault, WriteFault, StoreFault}
use Rattle.app_files.specs.Ends.{IsSilent}
use Rattle.store_keeper.specs.declared.keeper.KeepCall.{KeepCall}
use Rattle.store_keeper.specs.Content.{Content}
use Rattle.app_store.specs.Calls.{Call, fetched_by, kept_by}
use Rattle.app_store.specs.Ends.{Ends}
use Rattle.app_store.specs.Headline.{StoreHeadline}
use Rattle.app_store.specs.Told.{Told, IsKept}
use Rattle.app_store.specs.Words.{Command, Show}

-- what a shelf and a store tell
abbrev pub told_by : Option Files → Content → Told
told_by files content = record { files = files; content = content }

-- The command came to this status, over a shelf that holds `files`, tells what was `fetched` and counted `unread` faults; a store that holds
-- `content`, tells the calls that `kept` it and counted `unkept` faults; and an output that `told` its bytes and counted `unwritten` faults; each
-- as it was before and as it is after.
pub record IsStoreRun {F K W : Type 0} (files : F → Option Files) (fetched : F → Option (List (List ℕ))) (unread : F → ℕ) (content : K → Content) (kept : K → Option (List KeepCall)) (unkept : K → ℕ) (told : W → Option (List ℕ)) (unwritten : W → ℕ) (command : Command) (shelf shelf_after : F) (store store_after : K) (out out_after : W) (status : Status) : Type 0 where
  -- the calls that were made, in their order
  pub calls : List Call
  pub ends : Ends (told_by (files shelf) (content store)) command calls (content store_after) (told out) (told out_after) status
  -- what the status says of what is stored, and of the script
  pub headline : StoreHeadline (told_by (files shelf) (content store)) command (content store_after) (told out) (told out_after) status
  -- just these names were fetched and these calls of the store made, and each object is as it was where there are none
  pub read : IsRead files fetched unread shelf shelf_after (flat_map fetched_by calls) (status ≡ ReadFault)
  pub kept_so : IsKept kept unkept store store_after (flat_map kept_by calls) (status ≡ StoreFault)
  pub written : IsWritten unwritten out out_after (IsSilent status) (status ≡ WriteFault)
  -- `show` reads no file
  pub not_called : command ≡ Show → shelf_after ≡ shelf
  pub not_read : command ≡ Show → status ≢ ReadFault
