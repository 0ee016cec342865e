-- What a part of a run did to a shelf and to a store, and what it came to.
use Rattle.std.specs.Prelude.{◌≡◌, ℕ, List, Option, Result, Err}
use Rattle.std.specs.List.{flat_map}
use Rattle.app_files.specs.declared.stop.Stop.TheVariants as stop
use Rattle.app_files.specs.Stages.{ComesTo}
use Rattle.app_flow.specs.Files.{Files}
use Rattle.app_flow.specs.Outside.{IsRead}
use Rattle.store_keeper.specs.declared.keeper.KeepCall.{KeepCall}
use Rattle.store_keeper.specs.Content.{Content}
use Rattle.app_store.specs.declared.stop.StoreStop.{StoreStop}
use Rattle.app_store.specs.declared.stop.StoreStop.TheVariants.{StoreFault}
use Rattle.app_store.specs.declared.stop.StoreStop.TheVariants as store_stop
use Rattle.app_store.specs.Calls.{Call, fetched_by, kept_by}
use Rattle.app_store.specs.Stages.{StorePart}
use Rattle.app_store.specs.Told.{IsKept}

-- The part made these calls, in their order, and came to this end, whose value stands for another. The shelf and the store hold what they held.
pub record Ran {F K A B : Type 0} (files : F → Option Files) (fetched : F → Option (List (List ℕ))) (unread : F → ℕ) (content : K → Content) (kept : K → Option (List KeepCall)) (unkept : K → ℕ) (part : StorePart A) (seen : B → A) (shelf shelf_after : F) (store store_after : K) (end : Result B StoreStop) : Type 0 where
  pub calls : List Call
  pub came : ComesTo (part calls) seen end
  pub read : IsRead files fetched unread shelf shelf_after (flat_map fetched_by calls) (end ≡ Err (store_stop.Files stop.ReadFault))
  pub kept_so : IsKept kept unkept store store_after (flat_map kept_by calls) (end ≡ Err StoreFault)
  pub same : content store_after ≡ content store
