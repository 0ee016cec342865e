-- Where a literal ends, as the reader goes through it, or what stands in its way. Places are counted from its quote.
use Rattle.std.specs.Prelude.{ℕ, zero, suc, ◌+◌, ◌-◌, ◌<◌, ◌≤◌, Bool, true, ◌&&◌, ◌||◌, ◌==◌, nat_le, if◌then◌else◌, List, [], ◌∷◌, length, take, drop, slice_index, is_some, Result, Ok, Err}
use Rattle.std.specs.Char.{is_ascii_control, is_ascii_digit}
use Rattle.std.specs.Int.{is_in_range}
use Rattle.text_lexer.specs.declared.lex_err.Fault.{Fault}
use Rattle.text_lexer.specs.declared.lex_err.Cause.TheVariants.{BadByte, Unfinished, TooManyTextBytes}
use Rattle.text_lexer.specs.declared.limits.TheConstants.{MOST_TEXT_BYTES}
use Rattle.text_lexer.specs.Literal.{WritesByte, escaped}

-- two lower-case hexadecimal digits, of a value below 128, at the front
abbrev pub is_hex_pair : List ℕ → Bool
is_hex_pair text =
    is_in_range 48 55 (slice_index text 0) && (is_ascii_digit (slice_index text 1) || is_in_range 97 102 (slice_index text 1))

-- the bytes after a backslash that belong to it, and none where it is no escape
abbrev pub escape_len : List ℕ → ℕ
escape_len text =
    if is_some (escaped (slice_index text 0)) then 1 else (if slice_index text 0 == 120 && is_hex_pair (drop 1 text) then 3 else 0)

-- the text or its line ends here
abbrev pub ends_line : List ℕ → Bool
ends_line [] = true
ends_line (b ∷ rest) = b == 10

abbrev pub unfinished : Result ℕ Fault
unfinished = Err (record { cause = Unfinished; at = 0 })

abbrev pub bad_byte : ℕ → Result ℕ Fault
bad_byte at = Err (record { cause = BadByte; at = at })

-- the bytes of a backslash, `at` bytes after the quote, and of what follows it
abbrev pub escape_front : ℕ → List ℕ → Result ℕ Fault
escape_front at after =
    if ends_line after then unfinished else (if escape_len after == 0 then bad_byte at else Ok (1 + escape_len after))

-- the bytes of the character at the front, `at` bytes after the quote
abbrev pub character_front : ℕ → List ℕ → Result ℕ Fault
character_front at text =
    if ends_line text then unfinished else (if slice_index text 0 == 92 then escape_front at (drop 1 text)
    else (if is_ascii_control (slice_index text 0) then bad_byte at else Ok 1))

-- the end of a literal that stands for so many bytes
abbrev pub closed : ℕ → ℕ → Result ℕ Fault
closed end count = if nat_le count MOST_TEXT_BYTES then Ok end else Err (record { cause = TooManyTextBytes; at = 0 })

abbrev pub if_read : Result ℕ Fault → (ℕ → Result ℕ Fault) → Result ℕ Fault
if_read (Ok len) next = next len
if_read (Err e) next = Err e

-- The bytes of the literal whose first `at` are read, and stand for `count` bytes. The text goes on with `left` bytes of
-- the character that was read last.
abbrev pub literal_from : ℕ → ℕ → ℕ → List ℕ → Result ℕ Fault
literal_from left at count [] = unfinished
literal_from (suc left) at count (b ∷ rest) = literal_from left at count rest
literal_from zero at count (b ∷ rest) =
    if b == 34 then closed (at + 1) count
    else if_read (character_front at (b ∷ rest)) (λ len. literal_from (len - 1) (at + len) (count + 1) rest)

-- Some character inside a literal stands at the front.
abbrev pub IsCharacterAt : List ℕ → Type 0
IsCharacterAt text = (len byte : ℕ) × (0 < len) × (len ≤ length text) × WritesByte (take len text) byte
