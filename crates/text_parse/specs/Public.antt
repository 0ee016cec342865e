-- The words that the public contracts speak in.
pub use Rattle.text_parse.specs.Refused.{of_lex, what_text, IsRefusedAs}
