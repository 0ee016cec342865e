-- The words of this crate's public contracts.
pub use Rattle.certify_proving.specs.Limits.{IsWithinLimits, AreWithinLimits}
pub use Rattle.certify_proving.specs.Begun.{IsTextOf, IsBegun}
pub use Rattle.certify_proving.specs.Parts.{IsProblem, IsOpen}
pub use Rattle.certify_proving.specs.Proved.{IsProvedBy, IsLeftBy, IsCutBy, IsOpenBy, WithSignature, IsProved, IsFault}
