-- What the reader refuses at the front of a text is no token, for the cause and at the place that it says.
use Rattle.std.proofs.Common.{◌≡◌, ℕ, ◌+◌, ◌<◌, ◌≤◌, true, false, ◌⊎◌, inl, inr, List, [], ◌∷◌, ◌++◌, length, take, drop, slice_index, refl, sym, ◌∙◌, ap, arith, cond, leb, Bool, Option, Some, None, Result, Ok, Err}
use Rattle.std.specs.Char.{is_ascii_digit}
use Rattle.std.specs.List.{prefix_len}
use Rattle.std.proofs.lemmas.Bool.{false≢true, eqb-true, leb-true}
use Rattle.std.proofs.lemmas.List.{get_or-take, length-take-le}
use Rattle.text_lexer.specs.declared.front.Front.{Front}
use Rattle.text_lexer.specs.declared.lex_err.Cause.{Cause}
use Rattle.text_lexer.specs.declared.lex_err.Cause.TheVariants.{BadByte, BadNumber, Unfinished, TooManyNameBytes, TooManyTextBytes}
use Rattle.text_lexer.specs.declared.lex_err.Fault.{Fault}
use Rattle.text_lexer.specs.declared.limits.TheConstants.{MOST_NAME_BYTES, MOST_TEXT_BYTES}
use Rattle.text_lexer.specs.declared.token.TokenKind.{TokenKind}
use Rattle.text_lexer.specs.declared.token.TokenKind.TheVariants.{Upper, Lower, Number, Text}
use Rattle.text_lexer.specs.Front.{fault, found, front, is_number, literal_found, literal_front, longer_sign, number_front, one_byte_sign, sign_front, two_byte_sign, word_front}
use Rattle.text_lexer.specs.Lexeme.{HasForm, IsWithinLimits, is_word_byte}
use Rattle.text_lexer.specs.Literal.{IsLiteral}
use Rattle.text_lexer.specs.LiteralEnd.{closed, literal_from}
use Rattle.text_lexer.specs.Refused.{BeginsLiteral, BeginsNone, HoldsBadByte, IsBeyond, IsLongest, IsUnfinished}
use Rattle.text_lexer.proofs.Classes.{Class, upper, lower, digit, quote, sign, class_of, class_of_kind, form_sign}
use Rattle.text_lexer.proofs.Fronts.{by_class, class_at, class_at-form, class_from-quote, form_some, front-by_class, good_number, literal_at, literal_is, long_word, longest_literal, longest_some, lower_is, lower_only, number_is, number_only, number_within, short_word, sign_is_front, two_complete, upper_is, upper_only}
use Rattle.text_lexer.proofs.Literals.{cond_found, literal_goes_on}
use Rattle.text_lexer.proofs.OneValue.{literal_only}
use Rattle.text_lexer.proofs.Signs.{bytes_of_sign}
use Rattle.text_lexer.proofs.StoppedLiterals.{IsStopped, Why, literal_bad, literal_stopped, literal_unfinished}

-- What stands at the front, after so many bytes, for each cause.
abbrev pub Stands : List ℕ → Cause → ℕ → Type 0
Stands text BadByte at = ((at ≡ 0) × BeginsNone text) ⊎ HoldsBadByte text at
Stands text BadNumber at = (at ≡ 0) × IsBeyond text Number
Stands text Unfinished at = (at ≡ 0) × IsUnfinished text
Stands text TooManyNameBytes at = (at ≡ 0) × (IsBeyond text Upper ⊎ IsBeyond text Lower)
Stands text TooManyTextBytes at = (at ≡ 0) × IsBeyond text Text

-- ---- from the reader

word_stands : (text : List ℕ) (kind : TokenKind) (len : ℕ) (e : Fault) → IsLongest text kind len → (¬ (length (take len text) ≤ MOST_NAME_BYTES) → IsBeyond text Upper ⊎ IsBeyond text Lower) → cond (leb len MOST_NAME_BYTES) (found kind len) (fault TooManyNameBytes 0) ≡ Err e → Stands text e.cause e.at
word_stands text kind len e here beyond h = elim (cond_found (leb len MOST_NAME_BYTES) _ _ _ h) [
  | inl small ↦ absurd (cc)
  | inr large ↦
      let is : e ≡ record { cause = TooManyNameBytes; at = 0 } = cc in
      rw is (refl, beyond (long_word text len here.within large.0))
]

number_stands : (text : List ℕ) (e : Fault) → class_at text ≡ digit → number_front text ≡ Err e → Stands text e.cause e.at
number_stands text e at h =
    let len = prefix_len is_ascii_digit text in
    elim (cond_found (is_number (take len text)) _ _ _ h) [
      | inl good ↦ absurd (cc)
      | inr bad ↦
          let is : e ≡ record { cause = BadNumber; at = 0 } = cc in
          let beyond : ¬ (IsWithinLimits Number (take len text)) = λ (limits : IsWithinLimits Number (take len text)). false≢true (sym bad.0 ∙ number_within (take len text) limits) in
          rw is (refl, (len, number_is text at, beyond))
    ]

why_stands : (rest : List ℕ) (e : Fault) (s : IsStopped rest 1 0 e) → Why s.after (1 + length s.inside) (0 + length s.value) e → Stands (34 ∷ rest) e.cause e.at
why_stands rest e s (inl (more, is, many, which)) =
    let whole : 34 ∷ rest ≡ 34 ∷ (s.inside ++ 34 ∷ more) = ap (λ (z : List ℕ). 34 ∷ z) (s.text_is ∙ ap (λ (z : List ℕ). s.inside ++ z) is) in
    let literal = literal_is (34 ∷ rest) s.inside more s.value whole s.writes in
    let len = 1 + length s.inside + 1 in
    let bytes = take len (34 ∷ rest) in
    let beyond : ¬ (IsWithinLimits Text bytes) = λ (limits : IsWithinLimits Text bytes).
    let same = (literal_only bytes bytes limits.0 s.value [] [] limits.1 literal.1 refl).1 in
    many (omega (arith, limits.2, ap length same)) in
    rw which (refl, (len, longest_literal (34 ∷ rest) s.inside more s.value whole s.writes, beyond))
why_stands rest e s (inr (inl (line, which))) =
    let begins : BeginsLiteral (34 ∷ rest) s.inside s.after = record { is = ap (λ (z : List ℕ). 34 ∷ z) s.text_is; value = s.value; writes = s.writes } in
    rw which (refl, (s.inside, s.after, begins, line))
why_stands rest e s (inr (inr (bad, which))) =
    let begins : BeginsLiteral (34 ∷ rest) s.inside s.after = record { is = ap (λ (z : List ℕ). 34 ∷ z) s.text_is; value = s.value; writes = s.writes } in
    rw which (inr (s.inside, s.after, begins, refl, bad))

literal_stands : (text : List ℕ) (e : Fault) → class_at text ≡ quote → literal_front text ≡ Err e → Stands text e.cause e.at
literal_stands [] e at h = absurd (cc)
literal_stands (b ∷ rest) e at h = go (literal_from 0 1 0 rest) refl
  where
    go : (read : Result ℕ Fault) → literal_from 0 1 0 rest ≡ read → Stands (b ∷ rest) e.cause e.at
    go (Ok len) read = let some = rw read at h in absurd (cc)
    go (Err other) read =
        let none = rw read at h in
        let same : other ≡ e = cc in
        let byte = eqb-true b 34 (class_from-quote _ _ _ _ at) in
        let s = literal_stopped (length rest) rest 1 0 e (omega arith) (read ∙ ap Err same) in
        rw byte (why_stands rest e s s.why)

-- a sign that begins is found
sign_not_refused : (two : Option TokenKind) (kind : TokenKind) (e : Fault) → ¬ (longer_sign two (Some kind) ≡ Err e)
sign_not_refused (Some other) kind e h = cc
sign_not_refused None kind e h = cc

no_sign : (text : List ℕ) (kind : TokenKind) (len : ℕ) (e : Fault) → len ≤ length text → class_of_kind kind ≡ sign → HasForm kind (take len text) → ¬ (sign_front text ≡ Err e)
no_sign text kind len e within class form h =
    let is = form_sign kind (take len text) class form in
    let some : 0 < len = omega (arith, form_some kind (take len text) form, length-take-le len text within) in
    elim (bytes_of_sign kind class) [
      | inl one ↦
          let first : slice_index text 0 ≡ one.0 = sym (get_or-take len text 0 0 some) ∙ ap (λ (z : List ℕ). slice_index z 0) (is ∙ one.1) in
          let known : one_byte_sign (slice_index text 0) ≡ Some kind = rw first one.2 in
          let two = two_byte_sign (slice_index text 0) (slice_index text 1) in
          sign_not_refused two kind e (sym (ap (longer_sign two) known) ∙ h)
      | inr two ↦
          let clash : found kind len ≡ Err e = sym (two_complete text kind len two.0 two.1 within (is ∙ two.2) two.3) ∙ h in
          cc
    ]

sign_refused : (text : List ℕ) (e : Fault) → sign_front text ≡ Err e → (e ≡ record { cause = BadByte; at = 0 })
sign_refused text e h = go (two_byte_sign (slice_index text 0) (slice_index text 1)) (one_byte_sign (slice_index text 0)) h
  where
    go : (two one : Option TokenKind) → longer_sign two one ≡ Err e → (e ≡ record { cause = BadByte; at = 0 })
    go (Some kind) one h = absurd (cc)
    go None (Some kind) h = absurd (cc)
    go None None h = cc

sign_stands : (text : List ℕ) (e : Fault) → class_at text ≡ sign → sign_front text ≡ Err e → Stands text e.cause e.at
sign_stands text e at h =
    let no_quote : ¬ (slice_index text 0 ≡ 34) = λ (byte : slice_index text 0 ≡ 34). let clash : quote ≡ sign = sym (ap class_of byte) ∙ at in cc in
    let none : (kind : TokenKind) (len : ℕ) → len ≤ length text → ¬ (HasForm kind (take len text)) =
    λ kind len within form.
    let some : 0 < len = omega (arith, form_some kind (take len text) form, length-take-le len text within) in
    no_sign text kind len e within (sym (class_at-form text kind len some form) ∙ at) form h in
    rw (sign_refused text e h) (inl (refl, (no_quote, none)))

class_stands : (class : Class) (text : List ℕ) (e : Fault) → class_at text ≡ class → by_class class text ≡ Err e → Stands text e.cause e.at
class_stands upper text e at h =
    word_stands text Upper (prefix_len is_word_byte text) e (upper_is text at) (λ long. inl (prefix_len is_word_byte text, upper_is text at, long)) h
class_stands lower text e at h =
    word_stands text Lower (prefix_len is_word_byte text) e (lower_is text at) (λ long. inr (prefix_len is_word_byte text, lower_is text at, long)) h
class_stands digit text e at h = number_stands text e at h
class_stands quote text e at h = literal_stands text e at h
class_stands sign text e at h = sign_stands text e at h

pub front_stands : (text : List ℕ) (e : Fault) → front text ≡ Err e → Stands text e.cause e.at
front_stands text e h = class_stands (class_at text) text e refl (sym (front-by_class text) ∙ h)

-- ---- to the reader

by_its_class : (text : List ℕ) (class : Class) → class_at text ≡ class → front text ≡ by_class class text
by_its_class text class at = front-by_class text ∙ ap (λ c. by_class c text) at

longest_class : (text : List ℕ) (kind : TokenKind) (len : ℕ) → IsLongest text kind len → class_at text ≡ class_of_kind kind
longest_class text kind len here = class_at-form text kind len (longest_some text kind len here) here.form

word_refused : (text : List ℕ) (kind : TokenKind) (len : ℕ) → len ≤ length text → ¬ (length (take len text) ≤ MOST_NAME_BYTES) → prefix_len is_word_byte text ≡ len → word_front kind text ≡ fault TooManyNameBytes 0
word_refused text kind len within long counted = rw counted (go (leb len MOST_NAME_BYTES) refl)
  where
    go : (small : Bool) → leb len MOST_NAME_BYTES ≡ small → cond (leb len MOST_NAME_BYTES) (found kind len) (fault TooManyNameBytes 0) ≡ fault TooManyNameBytes 0
    go true is = absurd (long (short_word text len within is))
    go false is = rw is refl

number_refused : (text : List ℕ) (len : ℕ) → ¬ (IsWithinLimits Number (take len text)) → prefix_len is_ascii_digit text ≡ len → number_front text ≡ fault BadNumber 0
number_refused text len beyond counted = rw counted (go (is_number (take len text)) refl)
  where
    go : (good : Bool) → is_number (take len text) ≡ good → cond (is_number (take len text)) (found Number len) (fault BadNumber 0) ≡ fault BadNumber 0
    go true is = absurd (beyond (good_number (take len text) is))
    go false is = ap (λ t. cond t (found Number len) (fault BadNumber 0)) is

literal_too_long : (text : List ℕ) (len : ℕ) → len ≤ length text → (literal : (value : List ℕ) × IsLiteral (take len text) value) → ¬ (IsWithinLimits Text (take len text)) → literal_front text ≡ fault TooManyTextBytes 0
literal_too_long text len within (value, literal) beyond = rw (literal_at text len value within literal) (go (leb (length value) MOST_TEXT_BYTES) refl)
  where
    go : (small : Bool) → leb (length value) MOST_TEXT_BYTES ≡ small → literal_found (closed len (length value)) ≡ fault TooManyTextBytes 0
    go true is = absurd (beyond (value, literal, leb-true (length value) MOST_TEXT_BYTES is))
    go false is = rw is refl

-- a literal is read as far as whole characters go
begun_front : (text inside after : List ℕ) → BeginsLiteral text inside after → (count : ℕ) × (front text ≡ literal_found (literal_from 0 (1 + length inside) count after))
begun_front text inside after begins =
    let at : class_at text ≡ quote = ap class_at begins.is in
    let rest : drop 1 text ≡ inside ++ after = ap (drop 1) begins.is in
    (0 + length begins.value, by_its_class text quote at ∙ ap literal_found (ap (literal_from 0 1 0) rest ∙ literal_goes_on begins.value 1 0 inside after begins.writes))

none_front : (class : Class) (text : List ℕ) → class_at text ≡ class → 0 < length text → BeginsNone text → by_class class text ≡ fault BadByte 0
none_front upper text at some none =
    let here = upper_is text at in absurd (none.1 Upper (prefix_len is_word_byte text) here.within here.form)
none_front lower text at some none =
    let here = lower_is text at in absurd (none.1 Lower (prefix_len is_word_byte text) here.within here.form)
none_front digit text at some none =
    let here = number_is text at in absurd (none.1 Number (prefix_len is_ascii_digit text) here.within here.form)
none_front quote text at some none = absurd (none.0 (eqb-true _ 34 (class_from-quote _ _ _ _ at)))
none_front sign text at some none = go (sign_front text) refl
  where
    go : (read : Result Front Fault) → sign_front text ≡ read → sign_front text ≡ fault BadByte 0
    go (Ok f) h =
        let here = sign_is_front text f at h in absurd (none.1 f.kind f.len here.longest.within here.longest.form)
    go (Err e) h = h ∙ ap Err (sign_refused text e h)

pub stands_front : (text : List ℕ) (cause : Cause) (at : ℕ) → 0 < length text → Stands text cause at → front text ≡ fault cause at
stands_front text BadByte at some (inl (zero, none)) =
    rw zero (front-by_class text ∙ none_front (class_at text) text refl some none)
stands_front text BadByte at some (inr (inside, after, begins, place, bad)) =
    let begun = begun_front text inside after begins in
    rw (← place) (begun.1 ∙ ap literal_found (literal_bad (1 + length inside) begun.0 after bad))
stands_front text BadNumber at some (zero, (len, here, beyond)) =
    let class = longest_class text Number len here in
    rw zero (by_its_class text digit class ∙ number_refused text len beyond (number_only text len class here))
stands_front text Unfinished at some (zero, (inside, after, begins, line)) =
    let begun = begun_front text inside after begins in
    rw zero (begun.1 ∙ ap literal_found (literal_unfinished (1 + length inside) begun.0 after line))
stands_front text TooManyNameBytes at some (zero, (inl (len, here, beyond))) =
    let class = longest_class text Upper len here in
    rw zero (by_its_class text upper class ∙ word_refused text Upper len here.within beyond (upper_only text len class here))
stands_front text TooManyNameBytes at some (zero, (inr (len, here, beyond))) =
    let class = longest_class text Lower len here in
    rw zero (by_its_class text lower class ∙ word_refused text Lower len here.within beyond (lower_only text len class here))
stands_front text TooManyTextBytes at some (zero, (len, here, beyond)) =
    let class = longest_class text Text len here in
    rw zero (by_its_class text quote class ∙ literal_too_long text len here.within here.form beyond)
