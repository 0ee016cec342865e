-- The words of this crate's public contracts.
pub use Rattle.solve_order.specs.Difference.{Constraints, value_of, is_in_range, is_assignment, meets, is_literal}
