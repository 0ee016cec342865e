-- The words of this crate's public contracts.
pub use Rattle.certify_making.specs.Texts.{bytes_of, text_of, IsSmall, IsPartText}
pub use Rattle.certify_making.specs.Open.{HasVarsBelow, HasAssignment}
pub use Rattle.certify_making.specs.Faults.{IsWrittenPart, IsFault}
