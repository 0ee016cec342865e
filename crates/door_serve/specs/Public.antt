-- The words of this crate's public contracts.
pub use Rattle.door_serve.specs.DoorState.{state_of, Gives}
pub use Rattle.door_serve.specs.Doing.{IsAsked, Ends, Does}
pub use Rattle.door_serve.specs.Laws.{MigratesSecurely, MigrationsAreSecure, NoSessionRunsAhead, EnteringIsOpening}
