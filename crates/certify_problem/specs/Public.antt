-- The words of this crate's public contracts.
pub use Rattle.certify_problem.specs.Problems.{literal_of, IsProblemOf, StructuresGiveAssignments, VariablesAreBelow}
pub use Rattle.certify_problem.specs.Grounded.{AreTermsOf, IsProblemFor, IsCyclic, IsTooLargeBy, IsGrounded}
