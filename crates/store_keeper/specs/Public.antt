-- The words of this crate's public contracts.
pub use Rattle.store_keeper.specs.Stored.{Stored, stored_of, last_version, IsSettled, IsStored}
pub use Rattle.store_keeper.specs.Renumbered.{RenumberedAreSettled}
pub use Rattle.store_keeper.specs.Content.{Content, replaced, changed}
pub use Rattle.store_keeper.specs.Changes.{with_put, values_of, IsNext, IsSame, IsSet, MayPut, with_drop, MayDrop}
pub use Rattle.store_keeper.specs.Keepers.{MemKeeperState, SureKeeperState, faults_after}
