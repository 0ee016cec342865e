-- A run over a shelf and an output, all of it in one.
use Rattle.std.specs.Prelude.{◌≡◌, ◌≢◌, ℕ, List, Option, None, IfSome}
use Rattle.app_flow.specs.Files.{Files}
use Rattle.app_flow.specs.Outside.{IsRead, IsWritten}
use Rattle.app_files.specs.declared.status.Status.{Status}
use Rattle.app_files.specs.declared.status.Status.TheVariants.{ReadFault, WriteFault}
use Rattle.app_files.specs.Ends.{Ends, IsSilent, IsOfUsage}
use Rattle.app_files.specs.Headline.{Headline}
use Rattle.app_files.specs.Words.{check_of, IsNoCommand}

-- The words came to this status, over a shelf that holds `files`, tells what was `fetched` and counted `unread` faults, and an output that
-- `told` its bytes and counted `unwritten` ones; both as they were before and as they are after.
pub record IsFilesRun {F W : Type 0} (files : F → Option Files) (fetched : F → Option (List (List ℕ))) (unread : F → ℕ) (told : W → Option (List ℕ)) (unwritten : W → ℕ) (words : List (List ℕ)) (shelf shelf_after : F) (out out_after : W) (status : Status) : Type 0 where
  -- the names that were fetched, in their order
  pub calls : List (List ℕ)
  pub ends : Ends (files shelf) words calls (told out) (told out_after) status
  -- what the status says of the script in the files that are to be checked
  pub headline : IfSome (check_of words) (λ names. Headline (files shelf) names (told out) (told out_after) status)
  -- just these names were fetched, and the shelf is as it was where there are none
  pub read : IsRead files fetched unread shelf shelf_after calls (status ≡ ReadFault)
  pub written : IsWritten unwritten out out_after (IsSilent status) (status ≡ WriteFault)
  -- where no files are to be checked nothing is fetched
  pub not_called : check_of words ≡ None → shelf_after ≡ shelf
  pub not_read : check_of words ≡ None → status ≢ ReadFault
  pub usage : IsNoCommand words → IsOfUsage status
