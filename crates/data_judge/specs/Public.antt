-- The words that speak of what databases' texts write.
pub use Rattle.data_judge.specs.Meaning.{value_of, record_of, AreHeld}
pub use Rattle.data_judge.specs.Faults.{value_fault, rule_fault}
pub use Rattle.data_judge.specs.References.{lost}
pub use Rattle.data_judge.specs.Limits.{excess}
pub use Rattle.data_judge.specs.Judged.{Writes, Reads, IsGiven, IsRefusedFor}
pub use Rattle.data_judge.specs.Named.{GivesRow, GivesValue}
pub use Rattle.data_judge.specs.Worked.{WorkedData}
