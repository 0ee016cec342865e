-- The words of this crate's public contracts.
pub use Rattle.certify_clauses.specs.Paths.{positive, negative, opposite, value_on, IsFalseOn, pending}
pub use Rattle.certify_clauses.specs.PathView.{PathView}
pub use Rattle.certify_clauses.specs.Problem.{Said, Problem, Columns, meets_said, is_true_in, are_columns, said_by, all_said, IsLawfulAssignment}
pub use Rattle.certify_clauses.specs.Trees.{Tree, IsLawfulSplit, IsFalseClause, IsWithoutModel, IsLawful, TreesRefute}
pub use Rattle.certify_clauses.specs.Listed.{problem_of}
pub use Rattle.certify_clauses.specs.InMemory.{problem_in}
pub use Rattle.certify_clauses.specs.Refuted.{IsRefuted}
