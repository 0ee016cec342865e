-- A run of `impact`, all of it in one.
use Rattle.std.specs.Prelude.{◌≡◌, ◌≢◌, ℕ, List, Option}
use Rattle.app_flow.specs.Files.{Files}
use Rattle.app_flow.specs.Outside.{IsRead, IsWritten}
use Rattle.app_files.specs.Ends.{IsSilent}
use Rattle.app_files.specs.Words.{Names}
use Rattle.app_files.specs.declared.status.Status.{Status}
use Rattle.app_files.specs.declared.status.Status.TheVariants.{ReadFault, WriteFault, StoreFault}
use Rattle.app_impact.specs.Ends.{ImpactEnds}
use Rattle.app_impact.specs.Headline.{ImpactHeadline}

-- The command came to this status, over a shelf that holds `files`, tells what was `fetched` and counted `unread` faults, and an output that `told` its bytes
-- and counted `unwritten` ones; both as they were before and as they are after.
pub record IsImpactRun {F W : Type 0} (files : F → Option Files) (fetched : F → Option (List (List ℕ))) (unread : F → ℕ) (told : W → Option (List ℕ)) (unwritten : W → ℕ) (names : Names) (shelf shelf_after : F) (out out_after : W) (status : Status) : Type 0 where
  -- the names that were fetched, in their order
  pub calls : List (List ℕ)
  pub ends : ImpactEnds (files shelf) names calls (told out) (told out_after) status
  -- what the status says of the weakenings of the script in the files
  pub headline : ImpactHeadline (files shelf) names (told out) (told out_after) status
  -- just these names were fetched, and the shelf is as it was where there are none
  pub read : IsRead files fetched unread shelf shelf_after calls (status ≡ ReadFault)
  pub written : IsWritten unwritten out out_after (IsSilent status) (status ≡ WriteFault)
  -- no store is called
  pub not_kept : status ≢ StoreFault
