-- What may stand as one token.
use Rattle.std.specs.Prelude.{◌≡◌, ◌≤◌, ℕ, Bool, false, ◌&&◌, ◌||◌, ◌==◌, IsTrue, IsFalse, List, [], ◌∷◌, length, codes}
use Rattle.std.specs.Char.{is_ascii_uppercase, is_ascii_lowercase, is_ascii_digit, is_ascii_alphanumeric}
use Rattle.std.specs.List.{list_all}
use Rattle.std.specs.Str.Parse.{digits_value}
use Rattle.text_lexer.specs.declared.limits.TheConstants.{LARGEST_NUMBER, MOST_NAME_BYTES, MOST_TEXT_BYTES}
use Rattle.text_lexer.specs.declared.token.TokenKind.{TokenKind}
use Rattle.text_lexer.specs.declared.token.TokenKind.TheVariants.{Upper, Lower, Number, Text, ParenOpen, ParenClose, BracketOpen, BracketClose, BraceOpen, BraceClose, Comma, Colon, ColonColon, Dot, Arrow, Minus, Plus, EqEq, NotEq, Less, LessEq, Greater, GreaterEq, Not, AndAnd, OrOr, Bar, At}
use Rattle.text_lexer.specs.Literal.{IsLiteral}

-- a token without its place: its kind and its bytes
pub record Lexeme : Type 0 where
  pub kind : TokenKind
  pub bytes : List ℕ

-- ---- the forms of the kinds, at any length

-- a letter, a digit or `_`
abbrev pub is_word_byte : ℕ → Bool
is_word_byte b = is_ascii_alphanumeric b || b == 95

-- a byte that passes the first test, and then bytes that pass the other
abbrev pub is_run : (ℕ → Bool) → (ℕ → Bool) → List ℕ → Bool
is_run first next [] = false
is_run first next (b ∷ rest) = first b && list_all next rest

-- the bytes of a sign, and none for the other kinds
abbrev pub sign_of : TokenKind → List ℕ
sign_of Upper = []
sign_of Lower = []
sign_of Number = []
sign_of Text = []
sign_of ParenOpen = codes "("
sign_of ParenClose = codes ")"
sign_of BracketOpen = codes "["
sign_of BracketClose = codes "]"
sign_of BraceOpen = codes "{"
sign_of BraceClose = codes "}"
sign_of Comma = codes ","
sign_of Colon = codes ":"
sign_of ColonColon = codes "::"
sign_of Dot = codes "."
sign_of Arrow = codes "->"
sign_of Minus = codes "-"
sign_of Plus = codes "+"
sign_of EqEq = codes "=="
sign_of NotEq = codes "!="
sign_of Less = codes "<"
sign_of LessEq = codes "<="
sign_of Greater = codes ">"
sign_of GreaterEq = codes ">="
sign_of Not = codes "!"
sign_of AndAnd = codes "&&"
sign_of OrOr = codes "||"
sign_of Bar = codes "|"
sign_of At = codes "@"

-- The bytes have the form of that kind.
abbrev pub HasForm : TokenKind → List ℕ → Type 0
HasForm Upper bytes = IsTrue (is_run is_ascii_uppercase is_word_byte bytes)
HasForm Lower bytes = IsTrue (is_run is_ascii_lowercase is_word_byte bytes)
HasForm Number bytes = IsTrue (is_run is_ascii_digit is_ascii_digit bytes)
HasForm Text bytes = (value : List ℕ) × IsLiteral bytes value
HasForm kind bytes = bytes ≡ sign_of kind

-- ---- limits

-- more than one digit, of which the first is 0
abbrev pub has_needless_zero : List ℕ → Bool
has_needless_zero [] = false
has_needless_zero (b ∷ []) = false
has_needless_zero (b ∷ c ∷ rest) = b == 48

-- words by their bytes, numbers by their value and with no needless zero, literals by the bytes that they stand for
abbrev pub IsWithinLimits : TokenKind → List ℕ → Type 0
IsWithinLimits Upper bytes = length bytes ≤ MOST_NAME_BYTES
IsWithinLimits Lower bytes = length bytes ≤ MOST_NAME_BYTES
IsWithinLimits Number bytes =
    IsFalse (has_needless_zero bytes) × (digits_value 10 bytes ≤ LARGEST_NUMBER)
IsWithinLimits Text bytes = (value : List ℕ) × IsLiteral bytes value × (length value ≤ MOST_TEXT_BYTES)
IsWithinLimits kind bytes = Unit {0}

-- The bytes may be a token of the kind.
pub record IsLexeme (lexeme : Lexeme) : Type 0 where
  pub form : HasForm lexeme.kind lexeme.bytes
  pub limits : IsWithinLimits lexeme.kind lexeme.bytes
