-- Stages of commands over the store.
use Rattle.std.specs.Prelude.{⊤, Ok, Err}
use Rattle.app_files.specs.declared.stop.Stop.TheVariants as stop
use Rattle.app_files.specs.Stages.{StageOf, PartOf}
use Rattle.app_store.specs.Calls.{Call}
use Rattle.app_store.specs.declared.stop.StoreRefusal.{StoreRefusal}
use Rattle.app_store.specs.declared.stop.StoreStop.{StoreStop}
use Rattle.app_store.specs.declared.stop.StoreStop.TheVariants.{Files, Refused, StoreFault}

abbrev pub StoreStage : Type 0 → Type 1
StoreStage A = StageOf StoreStop A

-- a part of a run that calls the shelf and the store
abbrev pub StorePart : Type 0 → Type 1
StorePart A = PartOf StoreStop Call A

-- A stage that takes no memory and asks nothing of the outside: it refuses for such a reason, or passes such a value on.
abbrev pub Decides : {A : Type 0} → (StoreRefusal → Type 0) → (A → Type 0) → StoreStage A
Decides refuses passes (Ok x) = passes x
Decides refuses passes (Err (Refused refusal)) = refuses refusal
Decides refuses passes (Err (Files s)) = ⊥
Decides refuses passes (Err StoreFault) = ⊥

-- A stage that refuses nothing and passes such a value on; there may be no memory for it.
abbrev pub Makes : {A : Type 0} → (A → Type 0) → StoreStage A
Makes passes (Ok x) = passes x
Makes passes (Err (Files (stop.Refused refusal))) = ⊥
Makes passes (Err (Files stop.ReadFault)) = ⊥
Makes passes (Err (Files stop.OutOfMemory)) = ⊤
Makes passes (Err (Refused refusal)) = ⊥
Makes passes (Err StoreFault) = ⊥
