-- What is stored, and whether it allows a command.
use Rattle.std.specs.Prelude.{◌≡◌, ◌<◌, ⊤, Option, Some, None, IfSome, Ok, Err}
use Rattle.app_files.specs.declared.stop.Stop.TheVariants as stop
use Rattle.store_keeper.specs.Content.{Content}
use Rattle.store_keeper.specs.Stored.{Stored, IsStored, last_version}
use Rattle.app_store.specs.declared.stop.StoreRefusal.TheVariants.{IsSet, IsEmpty, IsSpent}
use Rattle.app_store.specs.declared.stop.StoreStop.TheVariants.{Files, Refused, StoreFault}
use Rattle.app_store.specs.Stages.{StoreStage, Decides}

-- The store gives what it holds. Where it tells that, it is just this.
abbrev pub Loads : Content → StoreStage (Option Stored)
Loads content (Ok held) = IfSome content (λ told. told ≡ held) × IfSome held IsStored
Loads content (Err (Files (stop.Refused refusal))) = ⊥
Loads content (Err (Files stop.ReadFault)) = ⊥
Loads content (Err (Files stop.OutOfMemory)) = ⊤
Loads content (Err (Refused refusal)) = ⊥
Loads content (Err StoreFault) = ⊤

-- nothing is stored, as `init` asks
abbrev pub IsFree : Option Stored → StoreStage (Unit {0})
IsFree held = Decides (λ refusal. (refusal ≡ IsSet) × (held ≡ None → ⊥)) (λ x. held ≡ None)

-- this is stored, as each other command asks
abbrev pub Holds : Option Stored → StoreStage Stored
Holds held = Decides (λ refusal. (refusal ≡ IsEmpty) × (held ≡ None)) (λ s. held ≡ Some s)

-- its version can rise, as `apply` asks
abbrev pub MayRise : Stored → StoreStage Stored
MayRise s = Decides (λ refusal. (refusal ≡ IsSpent) × (s.version ≡ last_version)) (λ same. (same ≡ s) × (s.version < last_version))
