-- The words of this crate's public contracts.
pub use Rattle.duty_writer.specs.Made.{Keeps, IsCause, Stands, IsPart, IsMade, MakesFor, Makes}
pub use Rattle.duty_writer.specs.Terms.{term_data}
