-- A token at its place in a text.
use Rattle.std.specs.Prelude.{ℕ, ◌<◌, ◌≤◌, List, length, map, slice_range}
use Rattle.text_lexer.specs.declared.token.Token.{Token}
use Rattle.text_lexer.specs.Lexeme.{Lexeme}

-- It has a byte or more, and ends within the text.
abbrev pub IsIn : List ℕ → Token → Type 0
IsIn text token = (token.at < token.end) × (token.end ≤ length text)

-- It ends before the other begins.
abbrev pub IsBefore : Token → Token → Type 0
IsBefore token other = token.end ≤ other.at

-- its kind, and its bytes in the text
abbrev pub lexeme_of : List ℕ → Token → Lexeme
lexeme_of text token = record { kind = token.kind; bytes = slice_range text token.at token.end }

abbrev pub lexemes_of : List ℕ → List Token → List Lexeme
lexemes_of text tokens = map (lexeme_of text) tokens
