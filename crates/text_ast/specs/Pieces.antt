-- The tokens of a text with their bytes.
use Rattle.std.specs.Prelude.{ℕ, List, map, slice_range}
use Rattle.text_lexer.specs.declared.token.Token.{Token}
use Rattle.text_lexer.specs.declared.token.TokenKind.{TokenKind}

-- a token: its kind, its bytes, and the offset of the first of them
pub record Piece : Type 0 where
  pub kind : TokenKind
  pub bytes : List ℕ
  pub at : ℕ

abbrev pub piece_of : List ℕ → Token → Piece
piece_of text token = record { kind = token.kind; bytes = slice_range text token.at token.end; at = token.at }

abbrev pub pieces_of : List ℕ → List Token → List Piece
pieces_of text tokens = map (piece_of text) tokens
