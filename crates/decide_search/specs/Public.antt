-- The words of this crate's public contracts; the others are those of solve_solver, solve_equality, solve_order and solve_theory.
pub use Rattle.decide_search.specs.Mixed.{Atom, AreTaken, IsMixed, AreValues, IsMixture, IsModelled}
pub use Rattle.decide_search.specs.Tabled.{IsTabled}
