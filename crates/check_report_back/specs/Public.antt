-- The words that speak of witnesses, their texts, and witnesses that are read back.
pub use Rattle.check_report_back.specs.Printed.{IsPrincipalOn, IsCellOn, IsWitnessOn, IsReadBack, GainsAreWitnesses, LeaksAreWitnesses, WitnessesComeBack}
pub use Rattle.check_report_back.specs.Scripts.{IsCommandOf, SchemasAreNumbered}
pub use Rattle.check_report_back.specs.Told.{statics_in, HasNames, IsTargetAt, IsPrincipalIn, IsCellAt, IsWitnessOf, WitnessTextsTell, BuiltStandInOrder}
