-- The words of this crate's public contracts.
pub use Rattle.door_judge.specs.Coming.{Comes, Names}
pub use Rattle.door_judge.specs.Parts.{IsKnown, set_record, IsRemovable}
pub use Rattle.door_judge.specs.Views.{setting_data, making_data}
