-- What the bytes of a literal stand for, as the reader finds it.
use Rattle.std.proofs.Common.{◌≡◌, ◌≢◌, ℕ, zero, suc, lit<, ◌+◌, ◌-◌, ◌*◌, ◌/◌, ◌%◌, ◌<◌, ◌≤◌, true, ◌||◌, inl, inr, List, [], ◌∷◌, ◌++◌, length, take, drop, slice_index, refl, sym, ◌∙◌, ap, ap₂, subst, arith, eqb, Some, append_assoc, append-nil, length-append}
use Rattle.std.specs.Char.{digit_char, digit_value, is_ascii_digit}
use Rattle.std.specs.Int.{is_in_range}
use Rattle.std.specs.List.{slice_range}
use Rattle.std.specs.Str.{IsUtf8}
use Rattle.std.proofs.lemmas.Bool.{eqb-true}
use Rattle.std.proofs.lemmas.Bool.Decides.{nat_tests}
use Rattle.std.proofs.lemmas.List.{get_or-append-add, get_or-take, length-take-le, take-append-drop, take_at}
use Rattle.std.proofs.lemmas.Str.{IsCharBoundary-after_ascii, IsCharBoundary-before_ascii, IsUtf8-append, IsUtf8-drop, IsUtf8-from_ascii, IsUtf8-take, digit_value-digit_char}
use Rattle.std.proofs.Math.Seq.{drop-append_seam}
use Rattle.text_lexer.specs.declared.limits.TheConstants.{MOST_TEXT_BYTES}
use Rattle.text_lexer.specs.declared.token.TokenKind.TheVariants.{Text}
use Rattle.text_lexer.specs.Lexeme.{IsWithinLimits}
use Rattle.text_lexer.specs.Literal.{IsLiteral, WritesByte, Writes, escaped}
use Rattle.text_lexer.specs.LiteralEnd.{IsCharacterAt}
use Rattle.text_lexer.proofs.Literals.{cond_found, low_digit, no_slash}
use Rattle.text_lexer.proofs.OneValue.{character_only, literal_only}

-- ---- one character

-- the forms of a character at the front
pub data Shape (text : List ℕ) : Type 0 where
  raw : slice_index text 0 ≢ 92 → 1 ≤ length text → WritesByte (take 1 text) (slice_index text 0) → Shape text
  escape : (byte : ℕ) → slice_index text 0 ≡ 92 → slice_index text 1 ≢ 120 → 2 ≤ length text → escaped (slice_index text 1) ≡ Some byte → Shape text
  hex : (byte : ℕ) → slice_index text 0 ≡ 92 → slice_index text 1 ≡ 120 → 4 ≤ length text → byte ≤ 127 → slice_index text 2 ≡ digit_char (byte / 16) → slice_index text 3 ≡ digit_char (byte % 16) → Shape text

no_x : (letter byte : ℕ) → escaped letter ≡ Some byte → letter ≢ 120
no_x letter byte h e = let none : escaped 120 ≡ Some byte = ap escaped (sym e) ∙ h in cc

at_front : (text written : List ℕ) (len i : ℕ) → take len text ≡ written → i < len → slice_index written i ≡ slice_index text i
at_front text written len i is below = ap (λ (z : List ℕ). slice_index z i) (sym is) ∙ get_or-take len text i 0 below

pub shape_of : (text : List ℕ) → IsCharacterAt text → Shape text
shape_of text (len, byte, some, within, inl (is, h)) =
    let one : len ≡ 1 = omega (arith, ap length is, length-take-le len text within) in
    let first = at_front text (byte ∷ []) len 0 is some in
    let written : WritesByte (take 1 text) byte = inl (subst (λ n. take n text ≡ byte ∷ []) one is, h) in
    raw (subst (λ b. b ≢ 92) first (no_slash byte h)) (omega arith) (subst (WritesByte (take 1 text)) first written)
shape_of text (len, byte, some, within, inr (inl (letter, is, h))) =
    let two : len ≡ 2 = omega (arith, ap length is, length-take-le len text within) in
    let slash = at_front text (92 ∷ letter ∷ []) len 0 is some in
    let next = at_front text (92 ∷ letter ∷ []) len 1 is (omega arith) in
    escape byte (sym slash) (subst (λ b. b ≢ 120) next (no_x letter byte h)) (omega arith) (subst (λ b. escaped b ≡ Some byte) next h)
shape_of text (len, byte, some, within, inr (inr (h, is))) =
    let written = 92 ∷ 120 ∷ digit_char (byte / 16) ∷ digit_char (byte % 16) ∷ [] in
    let four : len ≡ 4 = omega (arith, ap length is, length-take-le len text within) in
    hex byte (sym (at_front text written len 0 is some)) (sym (at_front text written len 1 is (omega arith))) (omega arith) h (sym (at_front text written len 2 is (omega arith))) (sym (at_front text written len 3 is (omega arith)))

pub hex_parts : (byte : ℕ) → byte ≤ 127 → (16 * digit_value (digit_char (byte / 16)) + digit_value (digit_char (byte % 16)) ≡ byte)
hex_parts byte h =
    omega (arith, digit_value-digit_char (byte / 16) (omega arith), digit_value-digit_char (byte % 16) (omega arith))

-- ---- the bytes inside

pub Writes-append : (value other inside more : List ℕ) → Writes inside value → Writes more other → Writes (inside ++ more) (value ++ other)
Writes-append [] other inside more h k = subst (λ z. Writes (z ++ more) other) (sym h) k
Writes-append (b ∷ value) other inside more (written, rest, is, first, others) k =
    (written, rest ++ more, ap (λ (z : List ℕ). z ++ more) is ∙ append_assoc written rest more, first, Writes-append value other rest more others k)

-- The reader has come so far: what it read stands for `value`, and what is left for something.
pub record IsUnescaping (inside rest value : List ℕ) : Type 0 where
  pub before : List ℕ
  pub is : inside ≡ before ++ rest
  pub writes : Writes before value
  pub left : List ℕ
  pub goes_on : Writes rest left

pub character_left : (inside rest value : List ℕ) → IsUnescaping inside rest value → 0 < length rest → IsCharacterAt rest
character_left inside rest value u some = go u.left u.goes_on
  where
    go : (left : List ℕ) → Writes rest left → IsCharacterAt rest
    go [] h = absurd (omega (arith, ap length h))
    go (byte ∷ left) (written, after, is, first, others) =
        let size = ap length is ∙ length-append written after in
        let same : take (length written) rest ≡ written = ap (take (length written)) is ∙ take_at written after (length written) refl in
        (length written, byte, written_some written byte first, omega arith, subst (λ z. WritesByte z byte) (sym same) first)
      where
        written_some : (written : List ℕ) (byte : ℕ) → WritesByte written byte → 0 < length written
        written_some written byte (inl (is, h)) = omega (arith, ap length is)
        written_some written byte (inr (inl (letter, is, h))) = omega (arith, ap length is)
        written_some written byte (inr (inr (h, is))) = omega (arith, ap length is)

pub unescape_more : (inside rest value : List ℕ) (len byte : ℕ) → IsUnescaping inside rest value → 0 < length rest → WritesByte (take len rest) byte → IsUnescaping inside (drop len rest) (value ++ byte ∷ [])
unescape_more inside rest value len byte u some first = go u.left u.goes_on
  where
    whole : take len rest ++ drop len rest ≡ rest
    whole = take-append-drop len rest

    go : (left : List ℕ) → Writes rest left → IsUnescaping inside (drop len rest) (value ++ byte ∷ [])
    go [] h = absurd (omega (arith, ap length h))
    go (other ∷ left) (written, after, is, first', others) =
        let same = character_only (take len rest) (drop len rest) written after byte other first first' (whole ∙ is) in
        record {
          before = u.before ++ take len rest;
          is = u.is ∙ ap (λ (z : List ℕ). u.before ++ z) (sym whole) ∙ sym (append_assoc u.before (take len rest) (drop len rest));
          writes = Writes-append value (byte ∷ []) u.before (take len rest) u.writes (take len rest, [], sym (append-nil (take len rest)), first, refl);
          left = left;
          goes_on = subst (λ z. Writes z left) (sym same.2) others;
        }

unescaped_all : (inside rest value : List ℕ) → IsUnescaping inside rest value → length rest ≤ 0 → Writes inside value
unescaped_all inside [] value u end = subst (λ z. Writes z value) (sym (u.is ∙ append-nil u.before)) u.writes
unescaped_all inside (b ∷ rest) value u end = absurd (omega arith)

-- ---- between the quotes

abbrev between : List ℕ → List ℕ
between literal = slice_range literal 1 (length literal - 1)

pub literal_long : (literal value : List ℕ) → IsLiteral literal value → 2 ≤ length literal
literal_long literal value (inside, is, writes) = omega (arith, ap length is, length-append inside (34 ∷ []))

between_is : (literal inside : List ℕ) → literal ≡ 34 ∷ (inside ++ 34 ∷ []) → between literal ≡ inside
between_is literal inside is =
    let size : length literal - 1 - 1 ≡ length inside = omega (arith, ap length is, length-append inside (34 ∷ [])) in
    ap₂ (λ n z. take n (drop 1 z)) size is ∙ take_at inside (34 ∷ []) (length inside) refl

pub begin_unescaping : (literal value : List ℕ) → IsLiteral literal value → IsUnescaping (between literal) (between literal) []
begin_unescaping literal value (inside, is, writes) =
    let same = between_is literal inside is in
    record { before = []; is = refl; writes = refl; left = value; goes_on = subst (λ z. Writes z value) (sym same) writes }

pub unescaped_literal : (literal known rest value : List ℕ) → IsLiteral literal known → IsUnescaping (between literal) rest value → length rest ≤ 0 → IsLiteral literal value
unescaped_literal literal known rest value (inside, is, writes) u end =
    let same = between_is literal inside is in
    (between literal, is ∙ ap (λ (z : List ℕ). 34 ∷ (z ++ 34 ∷ [])) (sym same), unescaped_all (between literal) rest value u end)

pub literal_limit : (bytes value : List ℕ) → IsWithinLimits Text bytes → IsLiteral bytes value → length value ≤ MOST_TEXT_BYTES
literal_limit bytes value (known, literal, limit) h =
    let same = (literal_only bytes bytes known value [] [] literal h refl).1 in
    omega (arith, limit, ap length same)

-- ---- UTF-8

cut_before : (front rest : List ℕ) (b : ℕ) → b < 128 → IsUtf8 (front ++ b ∷ rest) → IsUtf8 front × IsUtf8 (b ∷ rest)
cut_before front rest b small utf8 =
    let text = front ++ b ∷ rest in
    let after : drop (length front) text ≡ b ∷ rest = drop-append_seam front (b ∷ rest) in
    let none : length front + 0 ≡ length front = omega arith in
    let seen : b ≡ slice_index text (length front) = sym (get_or-append-add front (b ∷ rest) 0 0) ∙ ap (slice_index text) none in
    let here : slice_index text (length front) < 128 = subst (λ x. x < 128) (seen) small in
    let boundary = IsCharBoundary-before_ascii text (length front) (omega (arith, length-append front (b ∷ rest))) here in
    (subst IsUtf8 (take_at front (b ∷ rest) (length front) refl) (IsUtf8-take text (length front) utf8 boundary), subst IsUtf8 after (IsUtf8-drop text (length front) utf8 boundary))

cut_after : (b : ℕ) (rest : List ℕ) → b < 128 → IsUtf8 (b ∷ rest) → IsUtf8 rest
cut_after b rest small utf8 =
    IsUtf8-drop (b ∷ rest) 1 utf8 (IsCharBoundary-after_ascii (b ∷ rest) 0 utf8 (omega arith) small)

ascii_one : (b : ℕ) → b < 128 → IsUtf8 (b ∷ [])
ascii_one b small = IsUtf8-from_ascii (b ∷ []) ascii
  where
    ascii : (i : ℕ) → slice_index (b ∷ []) i < 128
    ascii zero = small
    ascii (suc i) = omega arith

pub ascii_first : (b : ℕ) (rest : List ℕ) → b < 128 → IsUtf8 rest → IsUtf8 (b ∷ rest)
ascii_first b rest small utf8 = IsUtf8-append (b ∷ []) rest (ascii_one b small) utf8

digit_small : (n : ℕ) → n < 16 → digit_char n < 128
digit_small n h = grind (arith, nat_tests)

-- an escape is written in ASCII, and stands for a byte of it
escape_small : (letter byte : ℕ) → escaped letter ≡ Some byte → (letter < 128) × (byte < 128)
escape_small letter byte h = elim (cond_found (eqb letter 34) _ _ _ h) [
  | inl q ↦ let is = eqb-true letter 34 q.0 in let to : 34 ≡ byte = let e = q.1 in cc in (omega arith, omega arith)
  | inr a ↦ elim (cond_found (eqb letter 92) _ _ _ a.1) [
    | inl q ↦ let is = eqb-true letter 92 q.0 in let to : 92 ≡ byte = let e = q.1 in cc in (omega arith, omega arith)
    | inr b ↦ elim (cond_found (eqb letter 110) _ _ _ b.1) [
      | inl q ↦ let is = eqb-true letter 110 q.0 in let to : 10 ≡ byte = let e = q.1 in cc in (omega arith, omega arith)
      | inr d ↦ elim (cond_found (eqb letter 114) _ _ _ d.1) [
        | inl q ↦ let is = eqb-true letter 114 q.0 in let to : 13 ≡ byte = let e = q.1 in cc in (omega arith, omega arith)
        | inr f ↦ elim (cond_found (eqb letter 116) _ _ _ f.1) [
          | inl q ↦ let is = eqb-true letter 116 q.0 in let to : 9 ≡ byte = let e = q.1 in cc in (omega arith, omega arith)
          | inr g ↦ absurd (cc)
        ]
      ]
    ]
  ]
]

-- Where the characters are UTF-8, so is what they stand for.
value_utf8 : (value front inside : List ℕ) → Writes inside value → IsUtf8 (front ++ inside) → IsUtf8 (front ++ value)
value_utf8 [] front inside h utf8 = subst (λ z. IsUtf8 (front ++ z)) h utf8
value_utf8 (byte ∷ value) front inside (written, rest, is, inl (plain, h), others) utf8 =
    let whole : front ++ inside ≡ (front ++ byte ∷ []) ++ rest =
    ap (λ (z : List ℕ). front ++ z) (is ∙ ap (λ (z : List ℕ). z ++ rest) plain) ∙ sym (append_assoc front (byte ∷ []) rest) in
    let next = value_utf8 value (front ++ byte ∷ []) rest others (subst IsUtf8 whole utf8) in
    subst IsUtf8 (append_assoc front (byte ∷ []) value) next
value_utf8 (byte ∷ value) front inside (written, rest, is, inr (inl (letter, slashed, h)), others) utf8 =
    let small = escape_small letter byte h in
    let whole : front ++ inside ≡ front ++ (92 ∷ letter ∷ rest) = ap (λ (z : List ℕ). front ++ z) (is ∙ ap (λ (z : List ℕ). z ++ rest) slashed) in
    let cut = cut_before front (letter ∷ rest) 92 (lit< tt) (subst IsUtf8 whole utf8) in
    let after = cut_after letter rest small.0 (cut_after 92 (letter ∷ rest) (lit< tt) cut.1) in
    IsUtf8-append front (byte ∷ value) cut.0 (ascii_first byte value small.1 (value_utf8 value [] rest others after))
value_utf8 (byte ∷ value) front inside (written, rest, is, inr (inr (h, digits)), others) utf8 =
    let high = digit_char (byte / 16) in
    let low = digit_char (byte % 16) in
    let whole : front ++ inside ≡ front ++ (92 ∷ 120 ∷ high ∷ low ∷ rest) = ap (λ (z : List ℕ). front ++ z) (is ∙ ap (λ (z : List ℕ). z ++ rest) digits) in
    let cut = cut_before front (120 ∷ high ∷ low ∷ rest) 92 (lit< tt) (subst IsUtf8 whole utf8) in
    let low_on = cut_after 120 (high ∷ low ∷ rest) (lit< tt) (cut_after 92 (120 ∷ high ∷ low ∷ rest) (lit< tt) cut.1) in
    let after = cut_after low rest (digit_small (byte % 16) (omega arith)) (cut_after high (low ∷ rest) (digit_small (byte / 16) (omega arith)) low_on) in
    IsUtf8-append front (byte ∷ value) cut.0 (ascii_first byte value (omega arith) (value_utf8 value [] rest others after))

-- A literal of a text stands for a text.
pub literal_utf8 : (text : List ℕ) (from to : ℕ) (value : List ℕ) → IsUtf8 text → IsLiteral (slice_range text from to) value → IsUtf8 value
literal_utf8 text from to value utf8 (inside, is, writes) =
    let rest = drop from text in
    let after = drop (to - from) rest in
    let parts : text ≡ take from text ++ 34 ∷ (inside ++ 34 ∷ after) =
    sym (take-append-drop from text) ∙ ap (λ (z : List ℕ). take from text ++ z) (sym (take-append-drop (to - from) rest) ∙ ap (λ (z : List ℕ). z ++ after) is ∙ ap (λ (z : List ℕ). 34 ∷ z) (append_assoc inside (34 ∷ []) after)) in
    let literal = cut_before (take from text) (inside ++ 34 ∷ after) 34 (lit< tt) (subst IsUtf8 parts utf8) in
    let begun = cut_after 34 (inside ++ 34 ∷ after) (lit< tt) literal.1 in
    value_utf8 value [] inside writes (cut_before inside after 34 (lit< tt) begun).0

-- ---- hexadecimal escapes

hex_shape : (text : List ℕ) → Shape text → slice_index text 0 ≡ 92 → slice_index text 1 ≡ 120 → (byte : ℕ) × (4 ≤ length text) × (byte ≤ 127) × (slice_index text 2 ≡ digit_char (byte / 16)) × (slice_index text 3 ≡ digit_char (byte % 16))
hex_shape text (raw other fits writes) slash x = absurd (other slash)
hex_shape text (escape byte is other fits h) slash x = absurd (other x)
hex_shape text (hex byte is next fits small high low) slash x = (byte, fits, small, high, low)

pub hex_low : (text : List ℕ) → IsCharacterAt text → slice_index text 0 ≡ 92 → slice_index text 1 ≡ 120 → (is_ascii_digit (slice_index text 3) || is_in_range 97 102 (slice_index text 3)) ≡ true
hex_low text h slash x =
    let is = hex_shape text (shape_of text h) slash x in
    rw is.4 (low_digit (is.0 % 16) (omega arith))

take_four : (text : List ℕ) → 4 ≤ length text → take 4 text ≡ slice_index text 0 ∷ slice_index text 1 ∷ slice_index text 2 ∷ slice_index text 3 ∷ []
take_four [] h = absurd (omega arith)
take_four (a ∷ []) h = absurd (omega arith)
take_four (a ∷ b ∷ []) h = absurd (omega arith)
take_four (a ∷ b ∷ c ∷ []) h = absurd (omega arith)
take_four (a ∷ b ∷ c ∷ d ∷ rest) h = refl

pub hex_writes : (text : List ℕ) → IsCharacterAt text → slice_index text 0 ≡ 92 → slice_index text 1 ≡ 120 → WritesByte (take 4 text) (16 * digit_value (slice_index text 2) + digit_value (slice_index text 3))
hex_writes text h slash x =
    let is = hex_shape text (shape_of text h) slash x in
    let byte : 16 * digit_value (slice_index text 2) + digit_value (slice_index text 3) ≡ is.0 = rw (is.3, is.4) (hex_parts is.0 is.2) in
    let written : take 4 text ≡ 92 ∷ 120 ∷ digit_char (is.0 / 16) ∷ digit_char (is.0 % 16) ∷ [] =
    take_four text is.1 ∙ (λ i. slash i ∷ x i ∷ is.3 i ∷ is.4 i ∷ []) in
    rw byte (inr (inr (is.2, written)))
