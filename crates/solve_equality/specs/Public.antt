-- The words of this crate's public contracts.
pub use Rattle.solve_equality.specs.Equality.{Equalities, takes_literal, are_together, meets_literal, keeps_apart, is_classes}
