-- The words of this crate's public contracts.
pub use Rattle.certify_plan.specs.Lines.{IsOfTree}
