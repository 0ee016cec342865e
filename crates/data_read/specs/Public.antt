-- The words that speak of databases that are read from texts.
pub use Rattle.data_read.specs.Reading.{IsRead, IsRefusedAs}
pub use Rattle.data_read.specs.Words.{IsModelName, IsFieldName, HasWordsIn, HasWords}
pub use Rattle.data_read.specs.Printable.{IsPrintable}
pub use Rattle.data_read.specs.Spelled.{IsIdLitOf, IsLitOf, held, IsFieldLitOf, IsRecordLitOf, IsTableLitOf, AreTableLitsOf}
