-- The words that speak of schemas that stay proper.
pub use Rattle.type_proper.specs.Shown.{shows, is_source, IsShown, PolicyIsShown, InitIsShown, TypedAreShown}
pub use Rattle.type_proper.specs.Steady.{IsSteady}
pub use Rattle.type_proper.specs.Literals.{CommandHasLiterals}
pub use Rattle.type_proper.specs.Fits.{Fits, CommandsKeepSteady, ResolvedFit}
pub use Rattle.type_proper.specs.Scripts.{StepsAreSteady, ScriptsAreTyped}
pub use Rattle.type_proper.specs.Specs.{SpecsAreSteady}
