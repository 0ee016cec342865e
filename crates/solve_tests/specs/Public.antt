-- The words of the public contracts of the crates below, by one name.
pub use Rattle.solve_theory.specs.LitBuf.{LitList}
pub use Rattle.solve_theory.specs.Models.{IsModelOf, HasModel, literals_at, IsCore}
pub use Rattle.solve_equality.specs.Equality.{Equalities, takes_literal, are_together, meets_literal, keeps_apart, is_classes}
pub use Rattle.solve_theory.specs.Pair.{PairState, in_order, takes_own, are_models, meets_own}
