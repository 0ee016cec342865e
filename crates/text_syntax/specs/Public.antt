-- The words that the public contracts speak in.
pub use Rattle.text_syntax.specs.Reads.{Reads, cause_of, reading}
pub use Rattle.text_syntax.specs.Pieces.{AreTokensIn, IsTokenIn}
