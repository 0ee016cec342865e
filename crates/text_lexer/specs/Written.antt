-- Lexemes written one after another, with blanks between those that would run together.
use Rattle.std.specs.Prelude.{ℕ, ◌+◌, Bool, true, false, not, ◌&&◌, ◌==◌, List, [], ◌∷◌, ◌++◌, length, map}
use Rattle.std.specs.Char.{is_ascii_digit}
use Rattle.std.specs.List.{list_all}
use Rattle.std.specs.Str.{IsUtf8}
use Rattle.text_lexer.specs.declared.token.Token.{Token}
use Rattle.text_lexer.specs.declared.token.TokenKind.{TokenKind}
use Rattle.text_lexer.specs.declared.token.TokenKind.TheVariants.{Upper, Lower, Number, Text, ParenOpen, ParenClose, BracketOpen, BracketClose, BraceOpen, BraceClose, Comma, Colon, ColonColon, Dot, Arrow, Minus, Plus, EqEq, NotEq, Less, LessEq, Greater, GreaterEq, Not, AndAnd, OrOr, Bar, At}
use Rattle.text_lexer.specs.Lexeme.{IsLexeme, Lexeme, is_word_byte}
use Rattle.text_lexer.specs.Lexes.{is_blank}

-- a lexeme, and the blanks before it
pub record Spaced : Type 0 where
  pub before : List ℕ
  pub lexeme : Lexeme

-- the text of these lexemes, which ends with the blanks `end`
abbrev pub text_of_lexemes : List ℕ → List Spaced → List ℕ
text_of_lexemes end [] = end
text_of_lexemes end (s ∷ rest) = s.before ++ (s.lexeme.bytes ++ text_of_lexemes end rest)

-- A token of this kind goes on with this byte.
abbrev pub goes_on : TokenKind → ℕ → Bool
goes_on Upper b = is_word_byte b
goes_on Lower b = is_word_byte b
goes_on Number b = is_ascii_digit b
goes_on Text b = false
goes_on ParenOpen b = false
goes_on ParenClose b = false
goes_on BracketOpen b = false
goes_on BracketClose b = false
goes_on BraceOpen b = false
goes_on BraceClose b = false
goes_on Comma b = false
goes_on Colon b = b == 58
goes_on ColonColon b = false
goes_on Dot b = false
goes_on Arrow b = false
goes_on Minus b = b == 62
goes_on Plus b = false
goes_on EqEq b = false
goes_on NotEq b = false
goes_on Less b = b == 61
goes_on LessEq b = false
goes_on Greater b = b == 61
goes_on GreaterEq b = false
goes_on Not b = b == 61
goes_on AndAnd b = false
goes_on OrOr b = false
goes_on Bar b = b == 124
goes_on At b = false

-- A token of this kind goes on with none of these bytes.
abbrev pub ends_before : TokenKind → List ℕ → Bool
ends_before kind [] = true
ends_before kind (b ∷ rest) = not (goes_on kind b)

-- Blanks stand before each, and none goes on with the next.
abbrev pub are_apart : List Spaced → Bool
are_apart [] = true
are_apart (s ∷ rest) =
    (list_all is_blank s.before && ends_before s.lexeme.kind (text_of_lexemes [] rest)) && are_apart rest

-- The bytes may be a token of the kind in a text that is UTF-8.
pub record IsPart (l : Lexeme) : Type 0 where
  pub lexeme : IsLexeme l
  pub utf8 : IsUtf8 l.bytes

-- the tokens of these lexemes, from the offset `at` on
abbrev pub places : ℕ → List Spaced → List Token
places at [] = []
places at (s ∷ rest) =
    let start = at + length s.before in
    let end = start + length s.lexeme.bytes in
    record { kind = s.lexeme.kind; at = start; end = end } ∷ places end rest

abbrev pub lexemes : List Spaced → List Lexeme
lexemes parts = map (λ s. s.lexeme) parts
