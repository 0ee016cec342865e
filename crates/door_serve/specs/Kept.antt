-- Why a line has no reply where the store gives no answer.
use Rattle.store_keeper.specs.declared.keeper.KeepErr.{KeepErr}
use Rattle.store_keeper.specs.declared.keeper.KeepErr.TheVariants as keep
use Rattle.door_serve.specs.declared.door_err.DoorErr.{DoorErr}
use Rattle.door_serve.specs.declared.door_err.DoorErr.TheVariants.{StoreFault, OutOfMemory}

abbrev pub err_of : KeepErr → DoorErr
err_of keep.Failed = StoreFault
err_of keep.OutOfMemory = OutOfMemory
