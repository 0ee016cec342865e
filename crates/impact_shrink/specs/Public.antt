-- The words that speak of small witnesses.
pub use Rattle.impact_shrink.specs.Real.{LeaksCell, IsLeaking, IsReal}
pub use Rattle.impact_shrink.specs.Small.{over, IsNeeded, IsSmall, IsPart, IsPartOf}
pub use Rattle.impact_shrink.specs.Shown.{IsSmallFor, IsMadeSmall, IsSmallOutcome}
