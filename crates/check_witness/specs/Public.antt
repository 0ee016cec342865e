-- The words that speak of databases of structures.
pub use Rattle.check_witness.specs.Built.{built, value_at, built_value, built_record, built_table}
pub use Rattle.check_witness.specs.Back.{IsBuildable, IsRising, HasIds, StructuresComeBack, BuiltDatabasesTellTheTruth, BuiltDatabasesStart, ScriptsAreBuildable}
pub use Rattle.check_witness.specs.Worked.{WorkedDatabases}
pub use Rattle.check_witness.specs.Witness.{Witness}
pub use Rattle.check_witness.specs.Printed.{model_text, static_text, field_text, database_text, witness_text}
pub use Rattle.check_witness.specs.WorkedTexts.{WorkedTexts}
pub use Rattle.check_witness.specs.Failing.{FailsOnBuilt, SatisfiedObligationsFail}
