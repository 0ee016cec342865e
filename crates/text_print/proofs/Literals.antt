-- Literals: what they stand for, and how that is written.
use Rattle.std.proofs.Common.{◌≡◌, ◌<◌, ◌≤◌, ◌+◌, ◌*◌, ◌/◌, ◌%◌, ◌||◌, not, inl, inr, ℕ, Bool, true, false, lit<, eqb, List, [], ◌∷◌, ◌++◌, length, drop, slice_index, refl, sym, ◌∙◌, ap, subst, arith, append_assoc, length-append, Some}
use Rattle.std.specs.Prelude.{nat_lt}
use Rattle.std.specs.Char.{digit_char, digit_value, is_ascii_control}
use Rattle.std.specs.List.{flat_map}
use Rattle.std.specs.Str.{IsUtf8}
use Rattle.std.proofs.lemmas.Bool.{eqb-true}
use Rattle.std.proofs.lemmas.Bool.Decides.{nat_tests}
use Rattle.std.proofs.lemmas.List.{get_or-append-add, take_at}
use Rattle.std.proofs.lemmas.Str.{IsCharBoundary-after_ascii, IsCharBoundary-before_ascii, IsUtf8-append, IsUtf8-drop, IsUtf8-take}
use Rattle.std.proofs.lemmas.Str.{IsUtf8-from_ascii}
use Rattle.std.proofs.lemmas.Str.Ascii.{IsAscii-nil}
use Rattle.std.proofs.Math.Seq.{drop-append_seam}
use Rattle.text_lexer.specs.Literal.{IsLiteral, WritesByte, Writes, escaped, is_raw}
use Rattle.text_lexer.proofs.Literals.{cond_found}
use Rattle.text_lexer.proofs.Values.{ascii_first, hex_parts}
use Rattle.text_tree.specs.LiteralValue.{literal_value, value_from}
use Rattle.text_print.specs.Marks.{escape, quoted}

-- ---- how a byte is written

pub data Way (b : ℕ) : Type 0 where
  plain : escape b ≡ b ∷ [] → is_raw b ≡ true → Way b
  slashed : (letter : ℕ) → escape b ≡ 92 ∷ letter ∷ [] → escaped letter ≡ Some b → letter < 128 → b < 128 → Way b
  hex : escape b ≡ 92 ∷ 120 ∷ digit_char (b / 16) ∷ digit_char (b % 16) ∷ [] → b ≤ 127 → Way b

control_is : (b : ℕ) → (nat_lt b 32 || eqb b 127) ≡ false → is_ascii_control b ≡ false
control_is b h = grind (arith, nat_tests)

low_is : (b : ℕ) → (nat_lt b 32 || eqb b 127) ≡ true → b ≤ 127
low_is b h = grind (arith, nat_tests)

pub way : (b : ℕ) → Way b
way b = first (eqb b 34) refl
  where
    last : (t : Bool) → (nat_lt b 32 || eqb b 127) ≡ t → eqb b 34 ≡ false → eqb b 92 ≡ false → eqb b 10 ≡ false → eqb b 13 ≡ false → eqb b 9 ≡ false → Way b
    last true h a c d e f = hex (rw (a, c, d, e, f, h) refl) (low_is b h)
    last false h a c d e f = plain (rw (a, c, d, e, f, h) refl) (rw (control_is b h, a, c) refl)

    fifth : (t : Bool) → eqb b 9 ≡ t → eqb b 34 ≡ false → eqb b 92 ≡ false → eqb b 10 ≡ false → eqb b 13 ≡ false → Way b
    fifth true h a c d e = subst Way (sym (eqb-true b 9 h)) (slashed 116 refl refl (lit< tt) (lit< tt))
    fifth false h a c d e = last (nat_lt b 32 || eqb b 127) refl a c d e h

    fourth : (t : Bool) → eqb b 13 ≡ t → eqb b 34 ≡ false → eqb b 92 ≡ false → eqb b 10 ≡ false → Way b
    fourth true h a c d = subst Way (sym (eqb-true b 13 h)) (slashed 114 refl refl (lit< tt) (lit< tt))
    fourth false h a c d = fifth (eqb b 9) refl a c d h

    third : (t : Bool) → eqb b 10 ≡ t → eqb b 34 ≡ false → eqb b 92 ≡ false → Way b
    third true h a c = subst Way (sym (eqb-true b 10 h)) (slashed 110 refl refl (lit< tt) (lit< tt))
    third false h a c = fourth (eqb b 13) refl a c h

    second : (t : Bool) → eqb b 92 ≡ t → eqb b 34 ≡ false → Way b
    second true h a = subst Way (sym (eqb-true b 92 h)) (slashed 92 refl refl (lit< tt) (lit< tt))
    second false h a = third (eqb b 10) refl a h

    first : (t : Bool) → eqb b 34 ≡ t → Way b
    first true h = subst Way (sym (eqb-true b 34 h)) (slashed 34 refl refl (lit< tt) (lit< tt))
    first false h = second (eqb b 92) refl h

writes_byte : (b : ℕ) → WritesByte (escape b) b
writes_byte b = elim (way b) [
  | plain is h ↦ inl (is, h)
  | slashed letter is h s t ↦ inr (inl (letter, is, h))
  | hex is h ↦ inr (inr (h, is))
]

writes_all : (value : List ℕ) → Writes (flat_map escape value) value
writes_all [] = refl
writes_all (b ∷ value) = (escape b, flat_map escape value, refl, writes_byte b, writes_all value)

pub quoted_literal : (value : List ℕ) → IsLiteral (quoted value) value
quoted_literal value = (flat_map escape value, refl, writes_all value)

-- ---- what a literal stands for, as a function

not_false : (b : Bool) → not b ≡ true → b ≡ false
not_false true e = cc
not_false false e = refl

or_false : (a b : Bool) → (a || b) ≡ false → (a ≡ false) × (b ≡ false)
or_false true b e = absurd (no e)
  where
    no : true ≡ false → ⊥
    no e = cc
or_false false b e = (refl, e)

raw_value : (b : ℕ) (more : List ℕ) → is_raw b ≡ true → value_from 0 (b ∷ more) ≡ b ∷ value_from 0 more
raw_value b more h =
    let parts = or_false (is_ascii_control b) (eqb b 34 || eqb b 92) (not_false (is_ascii_control b || (eqb b 34 || eqb b 92)) h) in
    let tests = or_false (eqb b 34) (eqb b 92) parts.1 in
    rw (tests.0, tests.1) refl

slash_value : (letter b : ℕ) (more : List ℕ) → escaped letter ≡ Some b → value_from 0 (92 ∷ letter ∷ more) ≡ b ∷ value_from 0 more
slash_value letter b more h = elim (cond_found (eqb letter 34) _ _ _ h) [
  | inl q ↦ (let is = eqb-true letter 34 q.0 in let to : 34 ≡ b = let e = q.1 in cc in
      subst (λ z. value_from 0 (92 ∷ z ∷ more) ≡ b ∷ value_from 0 more) (sym is) (ap (λ z. z ∷ value_from 0 more) to))
  | inr a ↦ elim (cond_found (eqb letter 92) _ _ _ a.1) [
    | inl q ↦ (let is = eqb-true letter 92 q.0 in let to : 92 ≡ b = let e = q.1 in cc in
        subst (λ z. value_from 0 (92 ∷ z ∷ more) ≡ b ∷ value_from 0 more) (sym is) (ap (λ z. z ∷ value_from 0 more) to))
    | inr c ↦ elim (cond_found (eqb letter 110) _ _ _ c.1) [
      | inl q ↦ (let is = eqb-true letter 110 q.0 in let to : 10 ≡ b = let e = q.1 in cc in
          subst (λ z. value_from 0 (92 ∷ z ∷ more) ≡ b ∷ value_from 0 more) (sym is) (ap (λ z. z ∷ value_from 0 more) to))
      | inr d ↦ elim (cond_found (eqb letter 114) _ _ _ d.1) [
        | inl q ↦ (let is = eqb-true letter 114 q.0 in let to : 13 ≡ b = let e = q.1 in cc in
            subst (λ z. value_from 0 (92 ∷ z ∷ more) ≡ b ∷ value_from 0 more) (sym is) (ap (λ z. z ∷ value_from 0 more) to))
        | inr f ↦ elim (cond_found (eqb letter 116) _ _ _ f.1) [
          | inl q ↦ (let is = eqb-true letter 116 q.0 in let to : 9 ≡ b = let e = q.1 in cc in
              subst (λ z. value_from 0 (92 ∷ z ∷ more) ≡ b ∷ value_from 0 more) (sym is) (ap (λ z. z ∷ value_from 0 more) to))
          | inr g ↦ absurd (cc)
        ]
      ]
    ]
  ]
]

hex_value : (b : ℕ) (more : List ℕ) → b ≤ 127 → value_from 0 (92 ∷ 120 ∷ digit_char (b / 16) ∷ digit_char (b % 16) ∷ more) ≡ b ∷ value_from 0 more
hex_value b more small =
    let is : digit_value (digit_char (b / 16)) * 16 + digit_value (digit_char (b % 16)) ≡ b = omega (arith, hex_parts b small) in
    ap (λ z. z ∷ value_from 0 more) is

byte_value : (written : List ℕ) (b : ℕ) (more : List ℕ) → WritesByte written b → value_from 0 (written ++ more) ≡ b ∷ value_from 0 more
byte_value written b more (inl (is, h)) = subst (λ z. value_from 0 (z ++ more) ≡ b ∷ value_from 0 more) (sym is) (raw_value b more h)
byte_value written b more (inr (inl (letter, is, h))) = subst (λ z. value_from 0 (z ++ more) ≡ b ∷ value_from 0 more) (sym is) (slash_value letter b more h)
byte_value written b more (inr (inr (small, is))) = subst (λ z. value_from 0 (z ++ more) ≡ b ∷ value_from 0 more) (sym is) (hex_value b more small)

inside_value : (value inside : List ℕ) → Writes inside value → value_from 0 (inside ++ 34 ∷ []) ≡ value
inside_value [] inside h = ap (λ (z : List ℕ). value_from 0 (z ++ 34 ∷ [])) h
inside_value (b ∷ value) inside (written, rest, is, first, others) =
    ap (λ (z : List ℕ). value_from 0 (z ++ 34 ∷ [])) is ∙ ap (value_from 0) (append_assoc written rest (34 ∷ []))
    ∙ byte_value written b (rest ++ 34 ∷ []) first ∙ ap (λ z. b ∷ z) (inside_value value rest others)

pub value_is : (bytes value : List ℕ) → IsLiteral bytes value → literal_value bytes ≡ value
value_is bytes value (inside, is, writes) = ap literal_value is ∙ inside_value value inside writes

-- ---- UTF-8

pub cut_before : (front rest : List ℕ) (b : ℕ) → b < 128 → IsUtf8 (front ++ b ∷ rest) → IsUtf8 front × IsUtf8 (b ∷ rest)
cut_before front rest b small utf8 =
    let text = front ++ b ∷ rest in
    let after : drop (length front) text ≡ b ∷ rest = drop-append_seam front (b ∷ rest) in
    let none : length front + 0 ≡ length front = omega arith in
    let seen : b ≡ slice_index text (length front) = sym (get_or-append-add front (b ∷ rest) 0 0) ∙ ap (slice_index text) none in
    let here : slice_index text (length front) < 128 = subst (λ x. x < 128) (seen) small in
    let boundary = IsCharBoundary-before_ascii text (length front) (omega (arith, length-append front (b ∷ rest))) here in
    (subst IsUtf8 (take_at front (b ∷ rest) (length front) refl) (IsUtf8-take text (length front) utf8 boundary), subst IsUtf8 after (IsUtf8-drop text (length front) utf8 boundary))

pub cut_after : (b : ℕ) (rest : List ℕ) → b < 128 → IsUtf8 (b ∷ rest) → IsUtf8 rest
cut_after b rest small utf8 =
    IsUtf8-drop (b ∷ rest) 1 utf8 (IsCharBoundary-after_ascii (b ∷ rest) 0 utf8 (omega arith) small)

digit_small : (n : ℕ) → n < 16 → digit_char n < 128
digit_small n h = grind (arith, nat_tests)

escaped_utf8 : (value front : List ℕ) → IsUtf8 (front ++ value) → IsUtf8 (front ++ flat_map escape value)
escaped_utf8 [] front utf8 = utf8
escaped_utf8 (b ∷ value) front utf8 = elim (way b) [
  | plain is h ↦ (let next : IsUtf8 ((front ++ b ∷ []) ++ flat_map escape value) = escaped_utf8 value (front ++ b ∷ []) (subst IsUtf8 (sym (append_assoc front (b ∷ []) value)) utf8) in
      subst IsUtf8 (append_assoc front (b ∷ []) (flat_map escape value) ∙ ap (λ (z : List ℕ). front ++ (z ++ flat_map escape value)) (sym is)) next)
  | slashed letter is h s t ↦ (let cut = cut_before front value b t utf8 in
      let rest : IsUtf8 (flat_map escape value) = escaped_utf8 value [] (cut_after b value t cut.1) in
      subst IsUtf8 (ap (λ (z : List ℕ). front ++ (z ++ flat_map escape value)) (sym is))
      (IsUtf8-append front (92 ∷ letter ∷ flat_map escape value) cut.0 (ascii_first 92 (letter ∷ flat_map escape value) (lit< tt) (ascii_first letter (flat_map escape value) s rest))))
  | hex is h ↦ (let small : b < 128 = omega arith in
      let cut = cut_before front value b small utf8 in
      let rest : IsUtf8 (flat_map escape value) = escaped_utf8 value [] (cut_after b value small cut.1) in
      let one = digit_char (b / 16) in
      let two = digit_char (b % 16) in
      subst IsUtf8 (ap (λ (z : List ℕ). front ++ (z ++ flat_map escape value)) (sym is))
      (IsUtf8-append front (92 ∷ 120 ∷ one ∷ two ∷ flat_map escape value) cut.0
      (ascii_first 92 (120 ∷ one ∷ two ∷ flat_map escape value) (lit< tt) (ascii_first 120 (one ∷ two ∷ flat_map escape value) (lit< tt)
      (ascii_first one (two ∷ flat_map escape value) (digit_small (b / 16) (omega arith)) (ascii_first two (flat_map escape value) (digit_small (b % 16) (omega arith)) rest))))))
]

pub quoted_utf8 : (value : List ℕ) → IsUtf8 value → IsUtf8 (quoted value)
quoted_utf8 value utf8 =
    ascii_first 34 (flat_map escape value ++ 34 ∷ []) (lit< tt)
    (IsUtf8-append (flat_map escape value) (34 ∷ []) (escaped_utf8 value [] utf8) (ascii_first 34 [] (lit< tt) (IsUtf8-from_ascii [] IsAscii-nil)))
