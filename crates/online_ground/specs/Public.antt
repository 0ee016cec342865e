-- The words of this crate's public contracts.
pub use Rattle.online_ground.specs.Grounds.{Grounds, AreGrounds, IsWithin, ground_at, rises}
