-- The words of this crate's public contracts.
pub use Rattle.decide_models.specs.Found.{IsFound}
