-- The words that speak of printed databases that are read back.
pub use Rattle.data_back.specs.Back.{value_at, table_at}
pub use Rattle.data_back.specs.Printed.{IsStandard, IsRead, IsNumbered, TablesAreRead}
pub use Rattle.data_back.specs.Reading.{Answer, after, choose, ReadsAs, Reads, Takes, word_at, number_from, signed_at, character_at, text_from, text_at, name_at}
pub use Rattle.data_back.specs.Laws.{EndsNumber, EndsName, PiecesAreRead}
