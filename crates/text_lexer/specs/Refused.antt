-- Why a text has no tokens, and where. Of each text either its tokens or one of these causes holds, at one place.
use Rattle.std.specs.Prelude.{◌≡◌, ◌≢◌, ℕ, ◌+◌, ◌<◌, ◌≤◌, IsFalse, ◌⊎◌, List, [], ◌∷◌, ◌++◌, length, take, drop, slice_index, slice_range}
use Rattle.std.specs.Str.{IsUtf8, IsValidUpTo}
use Rattle.text_lexer.specs.declared.lex_err.LexErr.{LexErr}
use Rattle.text_lexer.specs.declared.lex_err.LexErr.TheVariants.{NotText, BadByte, BadNumber, Unfinished, TooManyNameBytes, TooManyTextBytes, OutOfMemory}
use Rattle.text_lexer.specs.declared.token.Token.{Token}
use Rattle.text_lexer.specs.declared.token.TokenKind.{TokenKind}
use Rattle.text_lexer.specs.declared.token.TokenKind.TheVariants.{Upper, Lower, Number, Text}
use Rattle.text_lexer.specs.Lexeme.{HasForm, IsWithinLimits}
use Rattle.text_lexer.specs.Lexes.{IsGap, IsTokenOf, is_blank}
use Rattle.text_lexer.specs.Literal.{WritesByte, Writes}

-- ---- the bytes from a place on

-- The first `len` bytes have the form of the kind, and no more bytes have the form of a token.
pub record IsLongest (rest : List ℕ) (kind : TokenKind) (len : ℕ) : Type 0 where
  pub within : len ≤ length rest
  pub form : HasForm kind (take len rest)
  pub longest : (other : TokenKind) (more : ℕ) → len < more → more ≤ length rest → ¬ (HasForm other (take more rest))

-- What stands at the front has the form of the kind, and is beyond the limits of a token.
abbrev pub IsBeyond : List ℕ → TokenKind → Type 0
IsBeyond rest kind = (len : ℕ) × IsLongest rest kind len × ¬ (IsWithinLimits kind (take len rest))

-- Nothing at the front has the form of a token, and no literal (34 is the quote) begins there.
abbrev pub BeginsNone : List ℕ → Type 0
BeginsNone rest =
    (slice_index rest 0 ≢ 34) × ((kind : TokenKind) (len : ℕ) → len ≤ length rest → ¬ (HasForm kind (take len rest)))

-- A literal begins: a quote, then whole characters, `inside`, and then `after`.
pub record BeginsLiteral (rest inside after : List ℕ) : Type 0 where
  pub is : rest ≡ 34 ∷ (inside ++ after)
  pub value : List ℕ
  pub writes : Writes inside value

-- The line ends here, or the text does.
abbrev pub EndsLine : List ℕ → Type 0
EndsLine [] = Unit {0}
EndsLine (b ∷ rest) = b ≡ 10

-- A backslash that is the last byte of its line (92 is the backslash).
abbrev pub IsLastBackslash : List ℕ → Type 0
IsLastBackslash after = (more : List ℕ) × (after ≡ 92 ∷ more) × EndsLine more

-- A literal begins, and its line ends before it is closed.
abbrev pub IsUnfinished : List ℕ → Type 0
IsUnfinished rest = (inside after : List ℕ) × BeginsLiteral rest inside after × (EndsLine after ⊎ IsLastBackslash after)

-- The line goes on, with neither a quote nor a character of a literal.
pub record IsBadCharacter (after : List ℕ) : Type 0 where
  pub goes_on : ¬ (EndsLine after)
  pub no_last : ¬ (IsLastBackslash after)
  pub no_quote : slice_index after 0 ≢ 34
  pub no_character : (len byte : ℕ) → ¬ (WritesByte (take len after) byte)

-- A literal begins, and after `len` bytes of it stands what it may not hold.
abbrev pub HoldsBadByte : List ℕ → ℕ → Type 0
HoldsBadByte rest len =
    (inside after : List ℕ) × BeginsLiteral rest inside after × (1 + length inside ≡ len) × IsBadCharacter after

-- ---- the places of a text

-- From the offset `from` up to `to` the text has these tokens, and blanks and comments before and after each.
abbrev pub LexesUpTo : List ℕ → ℕ → List Token → ℕ → Type 0
LexesUpTo text from [] to = (from ≤ to) × IsGap (slice_range text from to)
LexesUpTo text from (token ∷ tokens) to =
    (from ≤ token.at) × IsGap (slice_range text from token.at) × IsTokenOf text token × LexesUpTo text token.end tokens to

-- The text is UTF-8, tokens, blanks and comments make up what is before `at`, and neither a blank nor a comment (35 is
-- `#`) goes on there: the next token must.
pub record MustBegin (text : List ℕ) (at : ℕ) : Type 0 where
  pub utf8 : IsUtf8 text
  pub tokens : List Token
  pub before : LexesUpTo text 0 tokens at
  pub within : at < length text
  pub no_blank : IsFalse (is_blank (slice_index text at))
  pub no_comment : slice_index text at ≢ 35

-- No token begins at `at` where one must; or there stands, in a literal that must begin before, what it may not hold.
abbrev pub IsBadByteAt : List ℕ → ℕ → Type 0
IsBadByteAt text at =
    (MustBegin text at × BeginsNone (drop at text))
    ⊎ ((quote len : ℕ) × MustBegin text quote × HoldsBadByte (drop quote text) len × (quote + len ≡ at))

-- The text has no tokens, for this cause and at this place: it is not UTF-8, and `at` bytes are its longest front that is;
-- or the cause stands where a token must begin.
abbrev pub Refuses : List ℕ → LexErr → Type 0
Refuses text (NotText at) = IsValidUpTo text at
Refuses text (BadByte at) = IsBadByteAt text at
Refuses text (BadNumber at) = MustBegin text at × IsBeyond (drop at text) Number
Refuses text (Unfinished at) = MustBegin text at × IsUnfinished (drop at text)
Refuses text (TooManyNameBytes at) = MustBegin text at × (IsBeyond (drop at text) Upper ⊎ IsBeyond (drop at text) Lower)
Refuses text (TooManyTextBytes at) = MustBegin text at × IsBeyond (drop at text) Text
Refuses text OutOfMemory = ⊥
