-- What the reader finds at the front of a text is the longest lexeme there, and the reader finds it.
use Rattle.std.proofs.Common.{◌≡◌, ◌≢◌, ℕ, ◌+◌, ◌<◌, ◌≤◌, Bool, true, false, not, cond, ◌⊎◌, inl, inr, List, [], ◌∷◌, ◌++◌, length, take, drop, slice_index, refl, sym, ◌∙◌, ap, ap₂, arith, leb, Option, Some, None, Result, Ok, Err, length-append, append_assoc, zero-add, lit≤}
use Rattle.std.specs.Char.{is_ascii_uppercase, is_ascii_lowercase, is_ascii_digit}
use Rattle.std.specs.List.{prefix_len}
use Rattle.std.specs.Str.Parse.{digits_value}
use Rattle.std.proofs.lemmas.Bool.{false≢true, and_parts, not-true, eqb-true, leb-true, le-leb, cases_lt}
use Rattle.std.proofs.lemmas.Bool.Decides.{nat_tests}
use Rattle.std.proofs.lemmas.List.{get_or-take, length-take-le, take-append-drop, take_at}
use Rattle.std.proofs.lemmas.List.Sums.{prefix_len-le-length}
use Rattle.text_lexer.specs.declared.front.Front.{Front}
use Rattle.text_lexer.specs.declared.lex_err.Fault.{Fault}
use Rattle.text_lexer.specs.declared.token.TokenKind.{TokenKind}
use Rattle.text_lexer.specs.declared.token.TokenKind.TheVariants.{Upper, Lower, Number, Text}
use Rattle.text_lexer.specs.Front.{front, found, fault, word_front, number_front, is_number, literal_front, sign_front, one_byte_sign, two_byte_sign}
use Rattle.text_lexer.specs.LiteralEnd.{closed, literal_from}
use Rattle.text_lexer.specs.Lexeme.{HasForm, IsWithinLimits, has_needless_zero, is_run, is_word_byte, sign_of}
use Rattle.text_lexer.specs.Literal.{IsLiteral, Writes}
use Rattle.text_lexer.specs.Refused.{IsLongest}
use Rattle.text_lexer.specs.declared.lex_err.Cause.TheVariants.{BadNumber, TooManyNameBytes}
use Rattle.text_lexer.specs.declared.limits.TheConstants.{LARGEST_NUMBER, MOST_NAME_BYTES, MOST_TEXT_BYTES}
use Rattle.text_lexer.proofs.Classes.{Class, upper, lower, digit, quote, sign, class_from, class_of, class_of_kind, class_of-form, form_upper, form_lower, form_digit, form_quote, form_sign}
use Rattle.text_lexer.proofs.Literals.{cond_found, literal_read, literal_found}
use Rattle.text_lexer.proofs.OneValue.{literal_only}
use Rattle.text_lexer.proofs.Runs.{list_all-take-prefix_len, prefix_len-most, prefix_len-positive, is_run-passes, is_run-take}
use Rattle.text_lexer.proofs.Signs.{bytes_of_sign, form_of_sign, limits_of_sign, one_byte_sign-is, two_byte_sign-is}

-- no more bytes at the front have a form
abbrev NoLonger : List ℕ → ℕ → Type 0
NoLonger text len = (kind : TokenKind) (more : ℕ) → len < more → more ≤ length text → ¬ (HasForm kind (take more text))

-- the longest lexeme at the front
pub record IsFront (text : List ℕ) (kind : TokenKind) (len : ℕ) : Type 0 where
  pub longest : IsLongest text kind len
  pub limits : IsWithinLimits kind (take len text)

pub form_some : (kind : TokenKind) (bytes : List ℕ) → HasForm kind bytes → 0 < length bytes
form_some Upper [] h = absurd (cc)
form_some Lower [] h = absurd (cc)
form_some Number [] h = absurd (cc)
form_some Text [] h = let clash = h.1.1 in absurd (cc)
form_some _ [] h = absurd (cc)
form_some _ (b ∷ rest) h = omega arith

pub longest_some : (text : List ℕ) (kind : TokenKind) (len : ℕ) → IsLongest text kind len → 0 < len
longest_some text kind len here =
    omega (arith, form_some kind (take len text) here.form, length-take-le len text here.within)

abbrev pub class_at : List ℕ → Class
class_at text = class_of (slice_index text 0)

-- what stands at the front has the class of the front's first byte
pub class_at-form : (text : List ℕ) (kind : TokenKind) (len : ℕ) → 0 < len → HasForm kind (take len text) → class_at text ≡ class_of_kind kind
class_at-form text kind len some h =
    let same : slice_index (take len text) 0 ≡ slice_index text 0 = get_or-take len text 0 0 some in
    ap class_of (sym same) ∙ class_of-form kind (take len text) h

-- ---- words and numbers

module _ (first next : ℕ → Bool) (goes_on : (b : ℕ) → first b ≡ true → next b ≡ true) (kind : TokenKind)
    (form : (bytes : List ℕ) → is_run first next bytes ≡ true → HasForm kind bytes)
    (runs : (other : TokenKind) (bytes : List ℕ) → class_of_kind other ≡ class_of_kind kind → HasForm other bytes → is_run first next bytes ≡ true) where
  run_longest : (text : List ℕ) → class_at text ≡ class_of_kind kind → NoLonger text (prefix_len next text)
  run_longest text at other more longer fits h =
      let same = class_at-form text other more (omega arith) h in
      let run = runs other (take more text) (sym same ∙ at) h in
      let most = prefix_len-most next text more fits (is_run-passes first next goes_on (take more text) run) in
      absurd (omega arith)

  run_form : (text : List ℕ) → 0 < length text → first (slice_index text 0) ≡ true → (0 < prefix_len next text) × (is_run first next (take (prefix_len next text) text) ≡ true)
  run_form text some h =
      let positive = prefix_len-positive next text some (goes_on (slice_index text 0) h) in
      (positive, is_run-take first next text (prefix_len next text) positive some h (list_all-take-prefix_len next text))

  run_is : (text : List ℕ) → class_at text ≡ class_of_kind kind → 0 < length text → first (slice_index text 0) ≡ true → IsLongest text kind (prefix_len next text)
  run_is text at some h = record {
    within = prefix_len-le-length next text;
    form = form _ (run_form text some h).1;
    longest = run_longest text at;
  }

  -- the longest run is the one that the reader counts
  run_only : (text : List ℕ) (len : ℕ) → IsLongest text kind len → first (slice_index text 0) ≡ true → prefix_len next text ≡ len
  run_only text len here h = go (cases_lt len (prefix_len next text))
    where
      go : (len < prefix_len next text) ⊎ (prefix_len next text ≤ len) → prefix_len next text ≡ len
      go (inl less) =
          let run = run_form text (omega (arith, longest_some text kind len here, here.within)) h in
          absurd (here.longest kind (prefix_len next text) less (prefix_len-le-length next text) (form _ run.1))
      go (inr more) =
          let run = runs kind (take len text) refl here.form in
          let most = prefix_len-most next text len here.within (is_run-passes first next goes_on (take len text) run) in
          omega (arith, most)

uppercase_goes_on : (b : ℕ) → is_ascii_uppercase b ≡ true → is_word_byte b ≡ true
uppercase_goes_on b h = grind (arith, nat_tests)

lowercase_goes_on : (b : ℕ) → is_ascii_lowercase b ≡ true → is_word_byte b ≡ true
lowercase_goes_on b h = grind (arith, nat_tests)

class_from-upper : (u l d q : Bool) → class_from u l d q ≡ upper → u ≡ true
class_from-upper true l d q h = refl
class_from-upper false true d q h = absurd (cc)
class_from-upper false false true q h = absurd (cc)
class_from-upper false false false true h = absurd (cc)
class_from-upper false false false false h = absurd (cc)

class_from-lower : (u l d q : Bool) → class_from u l d q ≡ lower → l ≡ true
class_from-lower true l d q h = absurd (cc)
class_from-lower false true d q h = refl
class_from-lower false false true q h = absurd (cc)
class_from-lower false false false true h = absurd (cc)
class_from-lower false false false false h = absurd (cc)

class_from-digit : (u l d q : Bool) → class_from u l d q ≡ digit → d ≡ true
class_from-digit true l d q h = absurd (cc)
class_from-digit false true d q h = absurd (cc)
class_from-digit false false true q h = refl
class_from-digit false false false true h = absurd (cc)
class_from-digit false false false false h = absurd (cc)

pub class_from-quote : (u l d q : Bool) → class_from u l d q ≡ quote → q ≡ true
class_from-quote true l d q h = absurd (cc)
class_from-quote false true d q h = absurd (cc)
class_from-quote false false true q h = absurd (cc)
class_from-quote false false false true h = refl
class_from-quote false false false false h = absurd (cc)

class_at-some : (text : List ℕ) (class : Class) → class_at text ≡ class → class ≢ sign → 0 < length text
class_at-some [] class h other = absurd (other (sym h))
class_at-some (b ∷ rest) class h other = omega arith

-- ---- the longest words and numbers

pub upper_is : (text : List ℕ) → class_at text ≡ upper → IsLongest text Upper (prefix_len is_word_byte text)
upper_is text at =
    run_is is_ascii_uppercase is_word_byte uppercase_goes_on Upper (λ _ r. r) form_upper text at (class_at-some text upper at (λ e. cc)) (class_from-upper _ _ _ _ at)

pub lower_is : (text : List ℕ) → class_at text ≡ lower → IsLongest text Lower (prefix_len is_word_byte text)
lower_is text at =
    run_is is_ascii_lowercase is_word_byte lowercase_goes_on Lower (λ _ r. r) form_lower text at (class_at-some text lower at (λ e. cc)) (class_from-lower _ _ _ _ at)

pub number_is : (text : List ℕ) → class_at text ≡ digit → IsLongest text Number (prefix_len is_ascii_digit text)
number_is text at =
    run_is is_ascii_digit is_ascii_digit (λ _ r. r) Number (λ _ r. r) form_digit text at (class_at-some text digit at (λ e. cc)) (class_from-digit _ _ _ _ at)

pub upper_only : (text : List ℕ) (len : ℕ) → class_at text ≡ upper → IsLongest text Upper len → prefix_len is_word_byte text ≡ len
upper_only text len at here =
    run_only is_ascii_uppercase is_word_byte uppercase_goes_on Upper (λ _ r. r) form_upper text len here (class_from-upper _ _ _ _ at)

pub lower_only : (text : List ℕ) (len : ℕ) → class_at text ≡ lower → IsLongest text Lower len → prefix_len is_word_byte text ≡ len
lower_only text len at here =
    run_only is_ascii_lowercase is_word_byte lowercase_goes_on Lower (λ _ r. r) form_lower text len here (class_from-lower _ _ _ _ at)

pub number_only : (text : List ℕ) (len : ℕ) → class_at text ≡ digit → IsLongest text Number len → prefix_len is_ascii_digit text ≡ len
number_only text len at here =
    run_only is_ascii_digit is_ascii_digit (λ _ r. r) Number (λ _ r. r) form_digit text len here (class_from-digit _ _ _ _ at)

-- ---- the tests of the limits

pub short_word : (text : List ℕ) (len : ℕ) → len ≤ length text → leb len MOST_NAME_BYTES ≡ true → length (take len text) ≤ MOST_NAME_BYTES
short_word text len within h = omega (arith, leb-true len MOST_NAME_BYTES h, length-take-le len text within)

pub long_word : (text : List ℕ) (len : ℕ) → len ≤ length text → leb len MOST_NAME_BYTES ≡ false → ¬ (length (take len text) ≤ MOST_NAME_BYTES)
long_word text len within h short =
    false≢true (sym h ∙ le-leb len MOST_NAME_BYTES (omega (arith, length-take-le len text within)))

pub good_number : (bytes : List ℕ) → is_number bytes ≡ true → IsWithinLimits Number bytes
good_number bytes h =
    let parts = and_parts (not (has_needless_zero bytes)) (leb (digits_value 10 bytes) LARGEST_NUMBER) h in
    (not-true _ parts.0, leb-true _ LARGEST_NUMBER parts.1)

pub number_within : (bytes : List ℕ) → IsWithinLimits Number bytes → is_number bytes ≡ true
number_within bytes limits =
    let small = le-leb (digits_value 10 bytes) LARGEST_NUMBER limits.1 in rw (limits.0, small) refl

-- a front, found by its parts
abbrev pub IsFrontOf : List ℕ → Front → Type 0
IsFrontOf text f = IsFront text f.kind f.len

module _ (text : List ℕ) (f : Front) where
  word_found : (kind : TokenKind) (len : ℕ) → IsLongest text kind len → (length (take len text) ≤ MOST_NAME_BYTES → IsWithinLimits kind (take len text)) → cond (leb len MOST_NAME_BYTES) (found kind len) (fault TooManyNameBytes 0) ≡ Ok f → IsFrontOf text f
  word_found kind len here limits h = elim (cond_found (leb len MOST_NAME_BYTES) _ _ _ h) [
    | inl small ↦
        let is : f ≡ record { kind = kind; len = len } = cc in
        rw is (record { longest = here; limits = limits (short_word text len here.within small.0) })
    | inr large ↦ absurd (cc)
  ]

  upper_found : class_at text ≡ upper → word_front Upper text ≡ Ok f → IsFrontOf text f
  upper_found at h = word_found Upper (prefix_len is_word_byte text) (upper_is text at) (λ short. short) h

  lower_found : class_at text ≡ lower → word_front Lower text ≡ Ok f → IsFrontOf text f
  lower_found at h = word_found Lower (prefix_len is_word_byte text) (lower_is text at) (λ short. short) h

  number_found : class_at text ≡ digit → number_front text ≡ Ok f → IsFrontOf text f
  number_found at h =
      let len = prefix_len is_ascii_digit text in
      elim (cond_found (is_number (take len text)) _ _ _ h) [
        | inl good ↦
            let is : f ≡ record { kind = Number; len = len } = cc in
            rw is (record { longest = number_is text at; limits = good_number (take len text) good.0 })
        | inr bad ↦ absurd (cc)
      ]

-- ---- literals

-- the reader finds a literal at the front
pub literal_at : (text : List ℕ) (len : ℕ) (value : List ℕ) → len ≤ length text → IsLiteral (take len text) value → literal_from 0 1 0 (drop 1 text) ≡ closed len (length value)
literal_at text len value within (inside, is, writes) =
    let after = drop len text in
    let parts : text ≡ 34 ∷ (inside ++ 34 ∷ after) = sym (take-append-drop len text) ∙ ap (λ (z : List ℕ). z ++ after) is ∙ ap (λ (z : List ℕ). 34 ∷ z) (append_assoc inside (34 ∷ []) after) in
    let end : 1 + length inside + 1 ≡ len = omega (arith, ap length is, length-append inside (34 ∷ []), length-take-le len text within) in
    let found = literal_read value 1 0 inside after writes in
    ap (λ (z : List ℕ). literal_from 0 1 0 (drop 1 z)) parts ∙ found ∙ ap₂ closed end (zero-add (length value))

-- at a literal no longer literal stands
pub literal_longest : (text : List ℕ) (len : ℕ) (value : List ℕ) → len ≤ length text → class_at text ≡ quote → IsLiteral (take len text) value → NoLonger text len
literal_longest text len value within at literal kind more longer fits form =
    let same = class_at-form text kind more (omega arith) form in
    let other = form_quote kind (take more text) (sym same ∙ at) form in
    let whole : take len text ++ drop len text ≡ take more text ++ drop more text = take-append-drop len text ∙ sym (take-append-drop more text) in
    let one = literal_only (take len text) (take more text) value other.0 (drop len text) (drop more text) literal other.1 whole in
    absurd (omega (arith, ap length one.0, length-take-le len text within, length-take-le more text fits))

-- a literal at the front
pub literal_is : (rest inside after value : List ℕ) → rest ≡ 34 ∷ (inside ++ 34 ∷ after) → Writes inside value → (1 + length inside + 1 ≤ length rest) × IsLiteral (take (1 + length inside + 1) rest) value
literal_is rest inside after value is writes =
    let bytes = 34 ∷ (inside ++ 34 ∷ []) in
    let parts : rest ≡ bytes ++ after = is ∙ ap (λ (z : List ℕ). 34 ∷ z) (sym (append_assoc inside (34 ∷ []) after)) in
    let size : length bytes ≡ 1 + length inside + 1 = omega (arith, length-append inside (34 ∷ [])) in
    let same : take (1 + length inside + 1) rest ≡ bytes = ap (take (1 + length inside + 1)) parts ∙ take_at bytes after (1 + length inside + 1) size in
    (omega (arith, ap length parts, length-append bytes after, size), (inside, same, writes))

pub longest_literal : (rest inside after value : List ℕ) → rest ≡ 34 ∷ (inside ++ 34 ∷ after) → Writes inside value → IsLongest rest Text (1 + length inside + 1)
longest_literal rest inside after value is writes =
    let parts = literal_is rest inside after value is writes in
    let at : class_at rest ≡ quote = ap class_at is in
    record { within = parts.0; form = (value, parts.1); longest = literal_longest rest _ value parts.0 at parts.1 }

literal_is_front : (text : List ℕ) (f : Front) → class_at text ≡ quote → literal_front text ≡ Ok f → IsFrontOf text f
literal_is_front [] f at h = absurd (cc)
literal_is_front (b ∷ rest) f at h = go (literal_from 0 1 0 rest) refl
  where
    go : (read : Result ℕ Fault) → literal_from 0 1 0 rest ≡ read → IsFront (b ∷ rest) f.kind f.len
    go (Err e) read = let none = rw read at h in absurd (cc)
    go (Ok len) read =
        let some = rw read at h in
        let is : f ≡ record { kind = Text; len = len } = cc in
        let byte = eqb-true b 34 (class_from-quote _ _ _ _ at) in
        let found = literal_found (length rest) rest 1 0 len (omega arith) read in
        let whole : b ∷ rest ≡ 34 ∷ (found.inside ++ 34 ∷ found.after) = ap₂ (λ (x : ℕ) (xs : List ℕ). x ∷ xs) byte found.text_is in
        let literal = literal_is (b ∷ rest) found.inside found.after found.value whole found.writes in
        rw (is, found.end_is) (record {
          longest = longest_literal (b ∷ rest) found.inside found.after found.value whole found.writes;
          limits = (found.value, literal.1, omega (arith, found.small));
        })

-- ---- signs

-- a sign has no more than two bytes, so nothing longer begins at one
short_sign : (kind : TokenKind) → class_of_kind kind ≡ sign → length (sign_of kind) ≤ 2
short_sign kind h = elim (bytes_of_sign kind h) [
  | inl one ↦ rw one.1 (lit≤ tt)
  | inr two ↦ rw two.2 (lit≤ tt)
]

sign_at : (text : List ℕ) (kind : TokenKind) (len : ℕ) → class_at text ≡ sign → 0 < len → HasForm kind (take len text) → (class_of_kind kind ≡ sign) × (take len text ≡ sign_of kind)
sign_at text kind len at some form =
    let same = sym (class_at-form text kind len some form) ∙ at in
    (same, form_sign kind (take len text) same form)

two_longest : (a b : ℕ) (rest : List ℕ) → class_at (a ∷ b ∷ rest) ≡ sign → NoLonger (a ∷ b ∷ rest) 2
two_longest a b rest at kind more longer fits form =
    let is = sign_at (a ∷ b ∷ rest) kind more at (omega arith) form in
    absurd (omega (arith, short_sign kind is.0, ap length is.1, length-take-le more (a ∷ b ∷ rest) fits))

-- no sign of two bytes stands at the front
abbrev NoTwo : List ℕ → Type 0
NoTwo text = (kind : TokenKind) → ¬ (two_byte_sign (slice_index text 0) (slice_index text 1) ≡ Some kind)

one_longest : (a : ℕ) (rest : List ℕ) → class_at (a ∷ rest) ≡ sign → NoTwo (a ∷ rest) → NoLonger (a ∷ rest) 1
one_longest a [] at none kind more longer fits form = absurd (omega arith)
one_longest a (b ∷ rest) at none kind more longer fits form =
    let text = a ∷ b ∷ rest in
    let is = sign_at text kind more at (omega arith) form in
    let two : more ≡ 2 = omega (arith, short_sign kind is.0, ap length is.1, length-take-le more text fits) in
    let bytes : a ∷ b ∷ [] ≡ sign_of kind = rw two at is.1 in
    elim (bytes_of_sign kind is.0) [
      | inl one ↦ absurd (let clash : a ∷ b ∷ [] ≡ one.0 ∷ [] = bytes ∙ one.1 in omega (arith, ap length clash))
      | inr known ↦
          let same : a ∷ b ∷ [] ≡ known.0 ∷ known.1 ∷ [] = bytes ∙ known.2 in
          let first : a ≡ known.0 = cc in
          let second : b ≡ known.1 = cc in
          none kind (rw (first, second) known.3)
    ]

two_front : (a b : ℕ) (rest : List ℕ) (kind : TokenKind) → class_at (a ∷ b ∷ rest) ≡ sign → two_byte_sign a b ≡ Some kind → IsFront (a ∷ b ∷ rest) kind 2
two_front a b rest kind at h =
    let is = two_byte_sign-is a b kind h in
    record {
      longest = record { within = omega arith; form = form_of_sign kind (a ∷ b ∷ []) is.1 (sym is.0); longest = two_longest a b rest at };
      limits = limits_of_sign kind (a ∷ b ∷ []) is.1;
    }

-- past the end of the text the reader sees a 0, which no sign has
not_two_at_end : (a : ℕ) (kind : TokenKind) → ¬ (two_byte_sign a 0 ≡ Some kind)
not_two_at_end a kind h =
    let is = two_byte_sign-is a 0 kind h in
    elim (bytes_of_sign kind is.1) [
      | inl one ↦ let clash : a ∷ 0 ∷ [] ≡ one.0 ∷ [] = sym is.0 ∙ one.1 in omega (arith, ap length clash)
      | inr known ↦
          let same : a ∷ 0 ∷ [] ≡ known.0 ∷ known.1 ∷ [] = sym is.0 ∙ known.2 in
          let second : 0 ≡ known.1 = cc in
          omega (arith, known.4)
    ]

one_front : (a : ℕ) (rest : List ℕ) (kind : TokenKind) → class_at (a ∷ rest) ≡ sign → NoTwo (a ∷ rest) → one_byte_sign a ≡ Some kind → IsFront (a ∷ rest) kind 1
one_front a rest kind at none h =
    let is = one_byte_sign-is a kind h in
    record {
      longest = record { within = omega arith; form = form_of_sign kind (a ∷ []) is.1 (sym is.0); longest = one_longest a rest at none };
      limits = limits_of_sign kind (a ∷ []) is.1;
    }

pub sign_is_front : (text : List ℕ) (f : Front) → class_at text ≡ sign → sign_front text ≡ Ok f → IsFrontOf text f
sign_is_front [] f at h = absurd (cc)
sign_is_front (a ∷ rest) f at h = go (two_byte_sign a (slice_index rest 0)) refl
  where
    two : (after : List ℕ) (kind : TokenKind) → class_at (a ∷ after) ≡ sign → two_byte_sign a (slice_index after 0) ≡ Some kind → IsFront (a ∷ after) kind 2
    two [] kind at found = absurd (not_two_at_end a kind found)
    two (b ∷ others) kind at found = two_front a b others kind at found

    one : two_byte_sign a (slice_index rest 0) ≡ None → (found : Option TokenKind) → one_byte_sign a ≡ found → IsFront (a ∷ rest) f.kind f.len
    one none (Some kind) known =
        let some = rw (none, known) at h in
        let is : f ≡ record { kind = kind; len = 1 } = cc in
        rw is (one_front a rest kind at (λ other e. cc) known)
    one none None known = let fault = rw (none, known) at h in absurd (cc)

    go : (found : Option TokenKind) → two_byte_sign a (slice_index rest 0) ≡ found → IsFront (a ∷ rest) f.kind f.len
    go (Some kind) known =
        let some = rw known at h in
        let is : f ≡ record { kind = kind; len = 2 } = cc in
        rw is (two rest kind at known)
    go None none = one none (one_byte_sign a) refl

-- ---- both ways

abbrev pub by_class : Class → List ℕ → Result Front Fault
by_class upper text = word_front Upper text
by_class lower text = word_front Lower text
by_class digit text = number_front text
by_class quote text = literal_front text
by_class sign text = sign_front text

by_class-from : (u l d q : Bool) (text : List ℕ) → by_class (class_from u l d q) text ≡ cond u (word_front Upper text) (cond l (word_front Lower text) (cond d (number_front text) (cond q (literal_front text) (sign_front text))))
by_class-from true l d q text = refl
by_class-from false true d q text = refl
by_class-from false false true q text = refl
by_class-from false false false true text = refl
by_class-from false false false false text = refl

pub front-by_class : (text : List ℕ) → front text ≡ by_class (class_at text) text
unfolding front
front-by_class text = sym (by_class-from _ _ _ _ text)

by_class_found : (text : List ℕ) (f : Front) (class : Class) → class_at text ≡ class → by_class class text ≡ Ok f → IsFrontOf text f
by_class_found text f upper at found = upper_found text f at found
by_class_found text f lower at found = lower_found text f at found
by_class_found text f digit at found = number_found text f at found
by_class_found text f quote at found = literal_is_front text f at found
by_class_found text f sign at found = sign_is_front text f at found

pub front_sound : (text : List ℕ) (f : Front) → front text ≡ Ok f → IsFront text f.kind f.len
front_sound text f h = by_class_found text f (class_at text) refl (sym (front-by_class text) ∙ h)

word_complete : (text : List ℕ) (kind : TokenKind) (len : ℕ) → prefix_len is_word_byte text ≡ len → len ≤ length text → length (take len text) ≤ MOST_NAME_BYTES → word_front kind text ≡ found kind len
word_complete text kind len counted within limit =
    let small = le-leb len MOST_NAME_BYTES (omega (arith, length-take-le len text within)) in
    rw (counted, small) refl

number_complete : (text : List ℕ) (len : ℕ) → prefix_len is_ascii_digit text ≡ len → IsWithinLimits Number (take len text) → number_front text ≡ found Number len
number_complete text len counted limits =
    let good = number_within (take len text) limits in
    rw counted (ap (λ t. cond t (found Number len) (fault BadNumber 0)) good)

literal_complete : (text : List ℕ) (len : ℕ) → len ≤ length text → IsWithinLimits Text (take len text) → literal_front text ≡ found Text len
literal_complete text len within (value, literal, limit) =
    let small = le-leb (length value) MOST_TEXT_BYTES limit in
    rw (literal_at text len value within literal, small) refl

-- the front's first bytes are those of what stands there
pub two_complete : (text : List ℕ) (kind : TokenKind) (len a b : ℕ) → len ≤ length text → take len text ≡ a ∷ b ∷ [] → two_byte_sign a b ≡ Some kind → sign_front text ≡ found kind len
two_complete text kind len a b within is h =
    let two : len ≡ 2 = omega (arith, ap length is, length-take-le len text within) in
    let first : a ≡ slice_index text 0 = sym (ap (λ (z : List ℕ). slice_index z 0) is) ∙ get_or-take len text 0 0 (omega arith) in
    let second : b ≡ slice_index text 1 = sym (ap (λ (z : List ℕ). slice_index z 1) is) ∙ get_or-take len text 1 0 (omega arith) in
    let known : two_byte_sign (slice_index text 0) (slice_index text 1) ≡ Some kind = rw (← first, ← second) h in
    rw (known, two) refl

one_complete : (text : List ℕ) (kind : TokenKind) (len a : ℕ) → IsFront text kind len → class_at text ≡ sign → take len text ≡ a ∷ [] → one_byte_sign a ≡ Some kind → sign_front text ≡ found kind len
one_complete [] kind len a here at is h = absurd (omega (arith, longest_some [] kind len here.longest, here.longest.within))
one_complete (b ∷ rest) kind len a here at is h = go rest here at
  where
    size : len ≡ 1
    size = omega (arith, ap length is, length-take-le len (b ∷ rest) here.longest.within)

    first : a ≡ b
    first = sym (ap (λ (z : List ℕ). slice_index z 0) is) ∙ get_or-take len (b ∷ rest) 0 0 (longest_some (b ∷ rest) kind len here.longest)

    no_two : (others : List ℕ) (other : TokenKind) → IsFront (b ∷ others) kind len → class_at (b ∷ others) ≡ sign → two_byte_sign b (slice_index others 0) ≡ Some other → ⊥
    no_two [] other here at known = not_two_at_end b other known
    no_two (c ∷ others) other here at known =
        here.longest.longest other 2 (omega (arith, size)) (omega arith) (two_front b c others other at known).longest.form

    go : (others : List ℕ) → IsFront (b ∷ others) kind len → class_at (b ∷ others) ≡ sign → sign_front (b ∷ others) ≡ found kind len
    go others here at = by (two_byte_sign b (slice_index others 0)) refl
      where
        by : (two : Option TokenKind) → two_byte_sign b (slice_index others 0) ≡ two → sign_front (b ∷ others) ≡ found kind len
        by (Some other) known = absurd (no_two others other here at known)
        by None none = let one : one_byte_sign b ≡ Some kind = rw (← first) h in rw (none, one, size) refl

sign_complete : (text : List ℕ) (kind : TokenKind) (len : ℕ) → class_of_kind kind ≡ sign → IsFront text kind len → sign_front text ≡ found kind len
sign_complete text kind len class here =
    let at = class_at-form text kind len (longest_some text kind len here.longest) here.longest.form ∙ class in
    let is = form_sign kind (take len text) class here.longest.form in
    elim (bytes_of_sign kind class) [
      | inl one ↦ one_complete text kind len one.0 here at (is ∙ one.1) one.2
      | inr two ↦ two_complete text kind len two.0 two.1 here.longest.within (is ∙ two.2) two.3
    ]

by_kind : (text : List ℕ) (kind : TokenKind) (len : ℕ) → class_at text ≡ class_of_kind kind → IsFront text kind len → by_class (class_of_kind kind) text ≡ found kind len
by_kind text Upper len at here = word_complete text Upper len (upper_only text len at here.longest) here.longest.within here.limits
by_kind text Lower len at here = word_complete text Lower len (lower_only text len at here.longest) here.longest.within here.limits
by_kind text Number len at here = number_complete text len (number_only text len at here.longest) here.limits
by_kind text Text len at here = literal_complete text len here.longest.within here.limits
by_kind text kind len at here = sign_complete text kind len refl here

pub front_complete : (text : List ℕ) (kind : TokenKind) (len : ℕ) → IsFront text kind len → front text ≡ found kind len
front_complete text kind len here =
    let at = class_at-form text kind len (longest_some text kind len here.longest) here.longest.form in
    front-by_class text ∙ ap (λ c. by_class c text) at ∙ by_kind text kind len at here
