-- The words that the public contracts speak in.
pub use Rattle.data_parse.specs.Refused.{IsRefusedAs}
