-- What a reader finds at the front of a text, as functions by cases: how many bytes belong to it, or what stands in its
-- way and where, counted from the front.
use Rattle.std.specs.Prelude.{ℕ, ◌+◌, Bool, not, ◌&&◌, ◌==◌, nat_le, if◌then◌else◌, List, take, drop, slice_index, Option, Some, None, Result, Ok, Err}
use Rattle.std.specs.Char.{is_ascii_digit, is_ascii_lowercase, is_ascii_uppercase}
use Rattle.std.specs.List.{prefix_len}
use Rattle.std.specs.Str.Parse.{digits_value}
use Rattle.text_lexer.specs.declared.front.Front.{Front}
use Rattle.text_lexer.specs.declared.lex_err.Fault.{Fault}
use Rattle.text_lexer.specs.declared.lex_err.Cause.{Cause}
use Rattle.text_lexer.specs.declared.lex_err.LexErr.{LexErr}
use Rattle.text_lexer.specs.declared.lex_err.Cause.TheVariants.{BadByte, BadNumber, TooManyNameBytes}
use Rattle.text_lexer.specs.declared.limits.TheConstants.{LARGEST_NUMBER, MOST_NAME_BYTES}
use Rattle.text_lexer.specs.declared.token.Token.{Token}
use Rattle.text_lexer.specs.declared.token.TokenKind.{TokenKind}
use Rattle.text_lexer.specs.declared.token.TokenKind.TheVariants.{Upper, Lower, Number, Text, ParenOpen, ParenClose, BracketOpen, BracketClose, BraceOpen, BraceClose, Comma, Colon, ColonColon, Dot, Arrow, Minus, Plus, EqEq, NotEq, Less, LessEq, Greater, GreaterEq, Not, AndAnd, OrOr, Bar, At}
use Rattle.text_lexer.specs.Lexeme.{is_word_byte, has_needless_zero}
use Rattle.text_lexer.specs.Fault.{refusal_of}
use Rattle.text_lexer.specs.LiteralEnd.{literal_from}

-- ---- words and numbers

abbrev pub found : TokenKind → ℕ → Result Front Fault
found kind len = Ok (record { kind = kind; len = len })

abbrev pub fault : Cause → ℕ → Result Front Fault
fault cause at = Err (record { cause = cause; at = at })

abbrev pub word_front : TokenKind → List ℕ → Result Front Fault
word_front kind text =
    let len = prefix_len is_word_byte text in if nat_le len MOST_NAME_BYTES then found kind len else fault TooManyNameBytes 0

abbrev pub is_number : List ℕ → Bool
is_number run = not (has_needless_zero run) && nat_le (digits_value 10 run) LARGEST_NUMBER

abbrev pub number_front : List ℕ → Result Front Fault
number_front text =
    let len = prefix_len is_ascii_digit text in if is_number (take len text) then found Number len else fault BadNumber 0

-- ---- literals

abbrev pub literal_found : Result ℕ Fault → Result Front Fault
literal_found (Ok len) = found Text len
literal_found (Err e) = Err e

abbrev pub literal_front : List ℕ → Result Front Fault
literal_front text = literal_found (literal_from 0 1 0 (drop 1 text))

-- ---- signs

abbrev pub two_byte_sign : ℕ → ℕ → Option TokenKind
two_byte_sign a b =
    if a == 58 && b == 58 then Some ColonColon else (if a == 45 && b == 62 then Some Arrow
    else (if a == 61 && b == 61 then Some EqEq else (if a == 33 && b == 61 then Some NotEq
    else (if a == 60 && b == 61 then Some LessEq else (if a == 62 && b == 61 then Some GreaterEq
    else (if a == 38 && b == 38 then Some AndAnd else (if a == 124 && b == 124 then Some OrOr else None)))))))

abbrev pub one_byte_sign : ℕ → Option TokenKind
one_byte_sign b =
    if b == 40 then Some ParenOpen else (if b == 41 then Some ParenClose else (if b == 91 then Some BracketOpen
    else (if b == 93 then Some BracketClose else (if b == 123 then Some BraceOpen else (if b == 125 then Some BraceClose
    else (if b == 44 then Some Comma else (if b == 58 then Some Colon else (if b == 46 then Some Dot
    else (if b == 45 then Some Minus else (if b == 43 then Some Plus else (if b == 60 then Some Less
    else (if b == 62 then Some Greater else (if b == 33 then Some Not else (if b == 124 then Some Bar
    else (if b == 64 then Some At else None)))))))))))))))

abbrev pub longer_sign : Option TokenKind → Option TokenKind → Result Front Fault
longer_sign (Some kind) one = found kind 2
longer_sign None (Some kind) = found kind 1
longer_sign None None = fault BadByte 0

abbrev pub sign_front : List ℕ → Result Front Fault
sign_front text =
    longer_sign (two_byte_sign (slice_index text 0) (slice_index text 1)) (one_byte_sign (slice_index text 0))

-- ---- the token at the front

unfoldable pub front : List ℕ → Result Front Fault
front text =
    let b = slice_index text 0 in
    if is_ascii_uppercase b then word_front Upper text else (if is_ascii_lowercase b then word_front Lower text
    else (if is_ascii_digit b then number_front text else (if b == 34 then literal_front text else sign_front text)))

-- what was found at the front of a text, in a text that has `at` bytes before it
abbrev pub placed : ℕ → Result Front Fault → Result Token LexErr
placed at (Ok f) = Ok (record { kind = f.kind; at = at; end = at + f.len })
placed at (Err e) = Err (refusal_of e.cause (at + e.at))
