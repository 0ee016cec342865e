-- The words of this crate's public contracts, and of those that make clauses of gates.
pub use Rattle.ground_gates.specs.Clauses.{HaveInputsBelow, IsEncoding, meets_clause, Meets, HasInputBelow, inputs_by}
pub use Rattle.ground_gates.specs.Added.{IsAdded}
pub use Rattle.ground_gates.specs.Gates.{literal_value, gate_value, values_of, value_of, IsPlaced, ArePlaced}
