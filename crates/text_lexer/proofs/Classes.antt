-- The first byte of a lexeme tells which rules it follows.
use Rattle.std.proofs.Common.{◌≡◌, ℕ, Bool, true, false, cond, List, slice_index, ap, arith, eqb}
use Rattle.std.specs.Char.{is_ascii_uppercase, is_ascii_lowercase, is_ascii_digit}
use Rattle.std.proofs.lemmas.Bool.Decides.{nat_tests}
use Rattle.text_lexer.specs.declared.token.TokenKind.{TokenKind}
use Rattle.text_lexer.specs.declared.token.TokenKind.TheVariants.{Upper, Lower, Number, Text}
use Rattle.text_lexer.specs.Lexeme.{HasForm, sign_of, is_run, is_word_byte}
use Rattle.text_lexer.proofs.Runs.{is_run-first}

pub data Class : Type 0 where
  upper lower digit quote sign : Class

abbrev pub class_from : Bool → Bool → Bool → Bool → Class
class_from u l d q = cond u upper (cond l lower (cond d digit (cond q quote sign)))

abbrev pub class_of : ℕ → Class
class_of b = class_from (is_ascii_uppercase b) (is_ascii_lowercase b) (is_ascii_digit b) (eqb b 34)

abbrev pub class_of_kind : TokenKind → Class
class_of_kind Upper = upper
class_of_kind Lower = lower
class_of_kind Number = digit
class_of_kind Text = quote
class_of_kind _ = sign

pub class_of-upper : (b : ℕ) → is_ascii_uppercase b ≡ true → class_of b ≡ upper
class_of-upper b h = rw h

pub class_of-lower : (b : ℕ) → is_ascii_lowercase b ≡ true → class_of b ≡ lower
class_of-lower b h = let other : is_ascii_uppercase b ≡ false = grind (arith, nat_tests) in rw (other, h)

pub class_of-digit : (b : ℕ) → is_ascii_digit b ≡ true → class_of b ≡ digit
class_of-digit b h =
    let other : is_ascii_uppercase b ≡ false = grind (arith, nat_tests) in
    let another : is_ascii_lowercase b ≡ false = grind (arith, nat_tests) in rw (other, another, h)

-- the class of a kind is that of the first byte of what has its form
pub class_of-form : (kind : TokenKind) (bytes : List ℕ) → HasForm kind bytes → class_of (slice_index bytes 0) ≡ class_of_kind kind
class_of-form Upper bytes h = class_of-upper (slice_index bytes 0) (is_run-first is_ascii_uppercase is_word_byte bytes h)
class_of-form Lower bytes h = class_of-lower (slice_index bytes 0) (is_run-first is_ascii_lowercase is_word_byte bytes h)
class_of-form Number bytes h = class_of-digit (slice_index bytes 0) (is_run-first is_ascii_digit is_ascii_digit bytes h)
class_of-form Text bytes h = ap (λ (x : List ℕ). class_of (slice_index x 0)) h.1.1
class_of-form kind bytes h = ap (λ (x : List ℕ). class_of (slice_index x 0)) h

-- ---- what has the form of a kind, by the class of the kind

pub form_upper : (kind : TokenKind) (bytes : List ℕ) → class_of_kind kind ≡ upper → HasForm kind bytes → is_run is_ascii_uppercase is_word_byte bytes ≡ true
form_upper Upper bytes e h = h
form_upper _ bytes e h = absurd (cc)

pub form_lower : (kind : TokenKind) (bytes : List ℕ) → class_of_kind kind ≡ lower → HasForm kind bytes → is_run is_ascii_lowercase is_word_byte bytes ≡ true
form_lower Lower bytes e h = h
form_lower _ bytes e h = absurd (cc)

pub form_digit : (kind : TokenKind) (bytes : List ℕ) → class_of_kind kind ≡ digit → HasForm kind bytes → is_run is_ascii_digit is_ascii_digit bytes ≡ true
form_digit Number bytes e h = h
form_digit _ bytes e h = absurd (cc)

pub form_quote : (kind : TokenKind) (bytes : List ℕ) → class_of_kind kind ≡ quote → HasForm kind bytes → HasForm Text bytes
form_quote Text bytes e h = h
form_quote _ bytes e h = absurd (cc)

pub form_sign : (kind : TokenKind) (bytes : List ℕ) → class_of_kind kind ≡ sign → HasForm kind bytes → bytes ≡ sign_of kind
form_sign Upper bytes e h = absurd (cc)
form_sign Lower bytes e h = absurd (cc)
form_sign Number bytes e h = absurd (cc)
form_sign Text bytes e h = absurd (cc)
form_sign _ bytes e h = h
