-- The words of this crate's public contracts.
pub use Rattle.solve_theory.specs.Pair.{PairState, in_order, takes_own, are_models, meets_own}
pub use Rattle.solve_theory.specs.LitBuf.{LitList}
pub use Rattle.solve_theory.specs.Models.{IsModelOf, HasModel, HasModelSaying, literals_at, IsCore}
