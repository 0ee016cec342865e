-- The words of this crate's public contracts.
pub use Rattle.decide_reading.specs.Columns.{is_tree_of, number_in, is_pair_of, assignment_by, AreFound, IsSo, fact_by}
pub use Rattle.decide_reading.specs.Broken.{IsBroken}
pub use Rattle.decide_reading.specs.Congruent.{IsCongruent, AreCongruences}
