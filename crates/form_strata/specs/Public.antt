-- The words of this crate's public contracts.
pub use Rattle.form_strata.specs.SortGraph.{range_edge, function_edge, is_dependent, term_edges, has_items, edges, edges_of, IsWalk, IsAcyclic, IsStratified}
pub use Rattle.form_strata.specs.Order.{IsBefore, IsOrder, IsCycle}
pub use Rattle.form_strata.specs.Strata.{IsStrata}
