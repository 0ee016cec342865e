-- The words that speak of the texts of databases.
pub use Rattle.data_print.specs.Texts.{id_text, value_text, slot_text, record_text, table_text, database_text}
pub use Rattle.data_print.specs.Told.{TextsTellDatabases}
