-- Why a stage stops where the store gives no answer.
use Rattle.app_files.specs.declared.stop.Stop.TheVariants as stop
use Rattle.store_keeper.specs.declared.keeper.KeepErr.{KeepErr}
use Rattle.store_keeper.specs.declared.keeper.KeepErr.TheVariants as keep
use Rattle.app_store.specs.declared.stop.StoreStop.{StoreStop}
use Rattle.app_store.specs.declared.stop.StoreStop.TheVariants.{Files, StoreFault}

abbrev pub stop_of : KeepErr → StoreStop
stop_of keep.Failed = StoreFault
stop_of keep.OutOfMemory = Files stop.OutOfMemory
