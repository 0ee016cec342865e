-- The words of this crate's public contracts.
pub use Rattle.solve_solver.specs.Assignment.{value_at, literal_value, meets_clause, theory_literals, IsLawful, SameLiterals}
pub use Rattle.solve_solver.specs.Clauses.{ClausesView, IsWithin}
pub use Rattle.solve_solver.specs.ContextView.{IsTaken}
pub use Rattle.solve_solver.specs.SolverView.{SolverView, IsLawfulFor, SameTerms}
pub use Rattle.solve_solver.specs.Values.{set_value, IsPropagated, IsQuiet, IsClash, IsUnitBy, IsFalseBy, Follow, Stay, AgreesWith}
