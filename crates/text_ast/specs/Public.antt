-- The words that speak of names, texts and the pieces of a text, and the limits of the language.
pub use Rattle.text_ast.specs.Limits.{most_levels, most_tokens, most_statics, most_models, most_fields, most_commands}
pub use Rattle.text_ast.specs.Words.{IsName, IsText}
pub use Rattle.text_ast.specs.Pieces.{Piece, piece_of, pieces_of}
