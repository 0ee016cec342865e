-- The words that speak of formulas and of the numbers that spell them.
pub use Rattle.solve_bench.specs.Formula.{IsFormula}
pub use Rattle.solve_bench.specs.Causes.{IsCause}
pub use Rattle.solve_bench.specs.Spelling.{spelled}
