-- The words that speak of effects.
pub use Rattle.impact_effects.specs.Effects.{ShowsExample, ShowsNothing, IsShown, IsEffect, AreEffects}
