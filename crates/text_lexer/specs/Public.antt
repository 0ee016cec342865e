-- The words of this crate's public contracts.
pub use Rattle.text_lexer.specs.Lexeme.{IsLexeme, Lexeme}
pub use Rattle.text_lexer.specs.Lexes.{Lexes, is_blank}
pub use Rattle.text_lexer.specs.Literal.{IsLiteral}
pub use Rattle.text_lexer.specs.Refused.{Refuses}
pub use Rattle.text_lexer.specs.Token.{IsBefore, IsIn, lexeme_of, lexemes_of}
pub use Rattle.text_lexer.specs.Written.{IsPart, Spaced, are_apart, lexemes, places, text_of_lexemes}
