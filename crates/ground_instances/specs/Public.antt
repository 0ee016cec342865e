-- The words of this crate's public contracts; the others are those of ground_gates, form_terms and form_formula.
pub use Rattle.ground_instances.specs.GroundAtoms.{GroundValue, named, number, text, applied_to, ground_value, GroundAtom, equal_values, less_value, related, flagged, present_at, holds_at}
pub use Rattle.ground_instances.specs.Inputs.{literal_of, value_at, input_value, IsValue, IsInput, AreInputs, AreInputsOf}
pub use Rattle.ground_instances.specs.Made.{AreInstancesOf}
