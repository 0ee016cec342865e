-- What the reader of a literal finds is a literal, and the reader finds each literal.
use Rattle.std.proofs.Common.{◌≡◌, ℕ, zero, suc, ◌+◌, ◌-◌, ◌*◌, ◌/◌, ◌%◌, ◌<◌, ◌≤◌, Bool, true, false, ◌&&◌, ◌||◌, cond, ◌⊎◌, inl, inr, List, [], ◌∷◌, ◌++◌, length, take, drop, slice_index, refl, sym, ◌∙◌, ap, subst, arith, eqb, leb, ltb, Option, Some, None, is_some, Result, Ok, Err, append_assoc, length-append, length-drop, ap₂}
use Rattle.std.proofs.lemmas.List.{length-take-le, take-append-drop}
use Rattle.std.proofs.Math.Seq.{drop-append_seam}
use Rattle.std.specs.Char.{is_ascii_control, is_ascii_digit, digit_char}
use Rattle.std.specs.Int.{is_in_range}
use Rattle.std.specs.List.{prefix_len}
use Rattle.std.proofs.lemmas.Bool.{false≢true, and_parts, or_cases, eqb-true, eq-eqb, ne_eqb, leb-true}
use Rattle.std.proofs.lemmas.Bool.Decides.{nat_tests}
use Rattle.text_lexer.specs.declared.lex_err.Fault.{Fault}
use Rattle.text_lexer.specs.LiteralEnd.{character_front, closed, ends_line, escape_len, is_hex_pair, literal_from}
use Rattle.text_lexer.specs.Literal.{WritesByte, Writes, escaped, is_raw}

-- ---- one character

-- what the reader finds for a character that is no quote
pub record IsRead (at : ℕ) (text : List ℕ) (len : ℕ) : Type 0 where
  pub read : character_front at text ≡ Ok len
  pub no_quote : eqb (slice_index text 0) 34 ≡ false
  pub positive : 0 < len

pub no_slash : (byte : ℕ) → is_raw byte ≡ true → ¬ (byte ≡ 92)
no_slash byte h e = let slash : is_raw 92 ≡ true = ap is_raw (sym e) ∙ h in cc

read_raw : (at byte : ℕ) (rest : List ℕ) → is_raw byte ≡ true → IsRead at (byte ∷ rest) 1
read_raw at byte rest h =
    let line : eqb byte 10 ≡ false = grind (arith, nat_tests) in
    let slash : eqb byte 92 ≡ false = grind (arith, nat_tests) in
    let quote : eqb byte 34 ≡ false = grind (arith, nat_tests) in
    let control : is_ascii_control byte ≡ false = grind (arith, nat_tests) in
    record { read = rw (line, slash, control) refl; no_quote = quote; positive = omega arith }

no_line_end : (letter byte : ℕ) → escaped letter ≡ Some byte → eqb letter 10 ≡ false
no_line_end letter byte h =
    ne_eqb letter 10 (λ e. let none : escaped 10 ≡ Some byte = subst (λ x. escaped x ≡ Some byte) e h in absurd (cc))

read_escape : (at letter byte : ℕ) (rest : List ℕ) → escaped letter ≡ Some byte → IsRead at (92 ∷ letter ∷ rest) 2
read_escape at letter byte rest h =
    let line = no_line_end letter byte h in
    let known : is_some (escaped letter) ≡ true = rw h refl in
    record { read = rw (line, known) refl; no_quote = refl; positive = omega arith }

pub high_digit : (n : ℕ) → n ≤ 7 → is_in_range 48 55 (digit_char n) ≡ true
high_digit n h = grind (arith, nat_tests)

pub low_digit : (n : ℕ) → n < 16 → (is_ascii_digit (digit_char n) || is_in_range 97 102 (digit_char n)) ≡ true
low_digit n h = grind (arith, nat_tests)

read_hex : (at byte : ℕ) (rest : List ℕ) → byte ≤ 127 → IsRead at (92 ∷ 120 ∷ digit_char (byte / 16) ∷ digit_char (byte % 16) ∷ rest) 4
read_hex at byte rest h =
    let high = high_digit (byte / 16) (omega arith) in
    let low = low_digit (byte % 16) (omega arith) in
    record { read = rw (high, low) refl; no_quote = refl; positive = omega arith }

pub read_character : (at : ℕ) (written rest : List ℕ) (byte : ℕ) → WritesByte written byte → IsRead at (written ++ rest) (length written)
read_character at written rest byte (inl raw) = rw raw.0 (read_raw at byte rest raw.1)
read_character at written rest byte (inr (inl escape)) = rw escape.1 (read_escape at escape.0 byte rest escape.2)
read_character at written rest byte (inr (inr hex)) = rw hex.1 (read_hex at byte rest hex.0)

-- ---- from the reader to the character

-- a character stands at the front, of so many bytes
pub record IsCharacter (text : List ℕ) (len : ℕ) : Type 0 where
  pub byte : ℕ
  pub writes : WritesByte (take len text) byte
  pub positive : 0 < len
  pub within : len ≤ length text

escape_of : (letter : ℕ) → is_some (escaped letter) ≡ true → (byte : ℕ) × (escaped letter ≡ Some byte)
escape_of letter h = go (escaped letter) refl h
  where
    go : (found : Option ℕ) → escaped letter ≡ found → is_some found ≡ true → (byte : ℕ) × (escaped letter ≡ Some byte)
    go (Some byte) e known = (byte, e)
    go None e known = absurd (cc)

-- a digit that `digit_char` writes
high_is : (b : ℕ) → is_in_range 48 55 b ≡ true → (n : ℕ) × (n ≤ 7) × (digit_char n ≡ b)
high_is b h =
    let parts = and_parts (leb 48 b) (leb b 55) h in
    let low = leb-true 48 b parts.0 in
    let high = leb-true b 55 parts.1 in
    let small : ltb (b - 48) 10 ≡ true = grind (arith, nat_tests) in
    (b - 48, omega arith, rw small (omega arith))

low_is : (b : ℕ) → (is_ascii_digit b || is_in_range 97 102 b) ≡ true → (n : ℕ) × (n < 16) × (digit_char n ≡ b)
low_is b h = go (or_cases (is_ascii_digit b) (is_in_range 97 102 b) h)
  where
    go : (is_ascii_digit b ≡ true) ⊎ (is_in_range 97 102 b ≡ true) → (n : ℕ) × (n < 16) × (digit_char n ≡ b)
    go (inl digit) =
        let parts = and_parts (leb 48 b) (leb b 57) digit in
        let low = leb-true 48 b parts.0 in
        let high = leb-true b 57 parts.1 in
        let small : ltb (b - 48) 10 ≡ true = grind (arith, nat_tests) in
        (b - 48, omega arith, rw small (omega arith))
    go (inr letter) =
        let parts = and_parts (leb 97 b) (leb b 102) letter in
        let low = leb-true 97 b parts.0 in
        let high = leb-true b 102 parts.1 in
        let large : ltb (b - 87) 10 ≡ false = grind (arith, nat_tests) in
        (b - 87, omega arith, rw large (omega arith))

writes_hex : (high low : ℕ) → is_in_range 48 55 high ≡ true → (is_ascii_digit low || is_in_range 97 102 low) ≡ true → (byte : ℕ) × WritesByte (92 ∷ 120 ∷ high ∷ low ∷ []) byte
writes_hex high low h l =
    let q = high_is high h in
    let r = low_is low l in
    let byte = 16 * q.0 + r.0 in
    let quotient : byte / 16 ≡ q.0 = omega (arith, q.1, r.1) in
    let rest : byte % 16 ≡ r.0 = omega (arith, q.1, r.1) in
    (byte, inr (inr (omega (arith, q.1, r.1), rw (quotient, rest, q.2, r.2) refl)))

-- what the reader finds after a backslash, in a text that goes on
hex_character : (rest : List ℕ) → is_hex_pair rest ≡ true → IsCharacter (92 ∷ 120 ∷ rest) 4
hex_character [] h = absurd (cc)
hex_character (high ∷ []) h = absurd (false≢true (and_parts (is_in_range 48 55 high) false h).1)
hex_character (high ∷ low ∷ rest) h =
    let parts = and_parts (is_in_range 48 55 high) (is_ascii_digit low || is_in_range 97 102 low) h in
    let written = writes_hex high low parts.0 parts.1 in
    record { byte = written.0; writes = written.1; positive = omega arith; within = omega arith }

-- which branch a choice took
pub cond_found : {X : Type 0} (t : Bool) (x y z : X) → cond t x y ≡ z → ((t ≡ true) × (x ≡ z)) ⊎ ((t ≡ false) × (y ≡ z))
cond_found true x y z h = inl (refl, h)
cond_found false x y z h = inr (refl, h)

-- the character that a backslash and what follows it write
escape_character : (after : List ℕ) (len : ℕ) → escape_len after ≡ len → eqb len 0 ≡ false → IsCharacter (92 ∷ after) (1 + len)
escape_character [] len h some = let e : len ≡ 0 = sym h in absurd (false≢true (sym some ∙ eq-eqb len 0 e))
escape_character (letter ∷ rest) len h some =
    go (cond_found (is_some (escaped letter)) 1 (cond (eqb letter 120 && is_hex_pair rest) 3 0) len h)
  where
    hex : ((eqb letter 120 && is_hex_pair rest) ≡ true × (3 ≡ len)) ⊎ (((eqb letter 120 && is_hex_pair rest) ≡ false) × (0 ≡ len)) → IsCharacter (92 ∷ letter ∷ rest) (1 + len)
    hex (inl found) =
        let parts = and_parts (eqb letter 120) (is_hex_pair rest) found.0 in
        let x = eqb-true letter 120 parts.0 in
        rw (x, ← found.1) (hex_character rest parts.1)
    hex (inr none) = absurd (false≢true (sym some ∙ eq-eqb len 0 (sym none.1)))

    go : ((is_some (escaped letter) ≡ true) × (1 ≡ len)) ⊎ ((is_some (escaped letter) ≡ false) × (cond (eqb letter 120 && is_hex_pair rest) 3 0 ≡ len)) → IsCharacter (92 ∷ letter ∷ rest) (1 + len)
    go (inl found) =
        let escape = escape_of letter found.0 in
        rw (← found.1) (record { byte = escape.0; writes = inr (inl (letter, refl, escape.1)); positive = omega arith; within = omega arith })
    go (inr other) = hex (cond_found (eqb letter 120 && is_hex_pair rest) 3 0 len other.1)

pub character_found : (at : ℕ) (text : List ℕ) (len : ℕ) → eqb (slice_index text 0) 34 ≡ false → character_front at text ≡ Ok len → IsCharacter text len
character_found at [] len quote h = absurd (cc)
character_found at (b ∷ rest) len quote h = elim (cond_found (eqb b 10) _ _ _ h) [
  | inl line ↦ absurd (cc)
  | inr goes_on ↦ elim (cond_found (eqb b 92) _ _ _ goes_on.1) [
    | inl slash ↦ elim (cond_found (ends_line rest) _ _ _ slash.1) [
      | inl line ↦ absurd (cc)
      | inr after ↦ elim (cond_found (eqb (escape_len rest) 0) _ _ _ after.1) [
        | inl none ↦ absurd (cc)
        | inr some ↦
            let same : 1 + escape_len rest ≡ len = cc in
            let byte = eqb-true b 92 slash.0 in
            rw (byte, ← same) (escape_character rest (escape_len rest) refl some.0)
      ]
    ]
    | inr plain ↦ elim (cond_found (is_ascii_control b) _ _ _ plain.1) [
      | inl control ↦ absurd (cc)
      | inr raw ↦
          let same : 1 ≡ len = cc in
          let is : is_raw b ≡ true = rw (raw.0, quote, plain.0) refl in
          rw (← same) (record { byte = b; writes = inl (refl, is); positive = omega arith; within = omega arith })
    ]
  ]
]

-- ---- whole literals

literal_from-drop : (left at count : ℕ) (text : List ℕ) → literal_from left at count text ≡ literal_from 0 at count (drop left text)
literal_from-drop zero at count text = refl
literal_from-drop (suc left) at count [] = refl
literal_from-drop (suc left) at count (b ∷ rest) = literal_from-drop left at count rest

drop-pred : (n b : ℕ) (rest : List ℕ) → 0 < n → drop (n - 1) rest ≡ drop n (b ∷ rest)
drop-pred zero b rest some = absurd (omega arith)
drop-pred (suc n) b rest some = let same : suc n - 1 ≡ n = omega arith in ap (λ k. drop k rest) same

-- the reader goes on after a character
pub literal_from-character : (at count : ℕ) (text : List ℕ) (len : ℕ) → eqb (slice_index text 0) 34 ≡ false → character_front at text ≡ Ok len → 0 < len → literal_from 0 at count text ≡ literal_from 0 (at + len) (count + 1) (drop len text)
literal_from-character at count [] len quote read some = absurd (cc)
literal_from-character at count (b ∷ rest) len quote read some =
    rw (quote, read) (literal_from-drop (len - 1) (at + len) (count + 1) rest ∙ ap (λ z. literal_from 0 (at + len) (count + 1) z) (drop-pred len b rest some))

literal_from-raw : (at count : ℕ) (text : List ℕ) → literal_from 0 (at + prefix_len is_raw text) (count + prefix_len is_raw text) (drop (prefix_len is_raw text) text) ≡ literal_from 0 at count text
literal_from-raw at count [] =
    let end : at + 0 ≡ at = omega arith in
    let same : count + 0 ≡ count = omega arith in
    ap₂ (λ i n. literal_from 0 i n []) end same
literal_from-raw at count (b ∷ rest) = go (is_raw b) refl (literal_from-raw (at + 1) (count + 1) rest)
  where
    n : ℕ
    n = prefix_len is_raw rest

    go : (t : Bool) → is_raw b ≡ t → literal_from 0 (at + 1 + n) (count + 1 + n) (drop n rest) ≡ literal_from 0 (at + 1) (count + 1) rest → literal_from 0 (at + cond t (1 + n) 0) (count + cond t (1 + n) 0) (drop (cond t (1 + n) 0) (b ∷ rest)) ≡ literal_from 0 at count (b ∷ rest)
    go true h next =
        let read = read_raw at b rest h in
        let step = literal_from-character at count (b ∷ rest) 1 read.no_quote read.read read.positive in
        let end : at + (1 + n) ≡ at + 1 + n = omega arith in
        let same : count + (1 + n) ≡ count + 1 + n = omega arith in
        let one : 1 + n ≡ suc n = omega arith in
        let left : drop (1 + n) (b ∷ rest) ≡ drop n rest = ap (λ k. drop k (b ∷ rest)) one in
        (λ i. literal_from 0 (end i) (same i) (left i)) ∙ next ∙ sym step
    go false h next =
        let end : at + 0 ≡ at = omega arith in
        let same : count + 0 ≡ count = omega arith in
        ap₂ (λ i k. literal_from 0 i k (b ∷ rest)) end same

-- the reader goes on after the bytes at the front that stand for themselves
pub literal_from-after_raw : (at count raw to counted : ℕ) (text : List ℕ) → raw ≡ prefix_len is_raw text → to ≡ at + raw → counted ≡ count + raw → literal_from 0 to counted (drop raw text) ≡ literal_from 0 at count text
literal_from-after_raw at count raw to counted text is end same = rw (end, same, is) (literal_from-raw at count text)

-- the reader goes on after what stands for some bytes
pub literal_goes_on : (value : List ℕ) (at count : ℕ) (inside after : List ℕ) → Writes inside value → literal_from 0 at count (inside ++ after) ≡ literal_from 0 (at + length inside) (count + length value) after
literal_goes_on [] at count inside after h =
    let end : at ≡ at + 0 = omega arith in
    let same : count ≡ count + 0 = omega arith in
    rw h (ap₂ (λ i n. literal_from 0 i n after) end same)
literal_goes_on (byte ∷ value) at count inside after (written, rest, is, first, others) =
    let text = rest ++ after in
    let found = read_character at written text byte first in
    let step = literal_from-character at count (written ++ text) (length written) found.no_quote found.read found.positive in
    let next = literal_goes_on value (at + length written) (count + 1) rest after others in
    let end : at + length written + length rest ≡ at + length (written ++ rest) = omega (arith, length-append written rest) in
    let same : count + 1 + length value ≡ count + suc (length value) = omega arith in
    rw (is, append_assoc) (step ∙ rw drop-append_seam (next ∙ ap₂ (λ i n. literal_from 0 i n after) end same))

pub literal_read : (value : List ℕ) (at count : ℕ) (inside after : List ℕ) → Writes inside value → literal_from 0 at count (inside ++ 34 ∷ after) ≡ closed (at + length inside + 1) (count + length value)
literal_read value at count inside after h = literal_goes_on value at count inside (34 ∷ after) h

-- what the reader finds: the rest of a literal whose first `at` bytes are read and stand for `count` bytes
pub record IsFound (text : List ℕ) (at count end : ℕ) : Type 0 where
  pub inside : List ℕ
  pub after : List ℕ
  pub value : List ℕ
  pub text_is : text ≡ inside ++ 34 ∷ after
  pub writes : Writes inside value
  pub end_is : end ≡ at + length inside + 1
  pub small : count + length value ≤ 4096

found_end : (rest : List ℕ) (at count end : ℕ) → closed (at + 1) count ≡ Ok end → IsFound (34 ∷ rest) at count end
found_end rest at count end h = elim (cond_found (leb count 4096) _ _ _ h) [
  | inl small ↦
      let limit = leb-true count 4096 small.0 in
      let same : at + 1 ≡ end = cc in
      record { inside = []; after = rest; value = []; text_is = refl; writes = refl; end_is = omega arith; small = omega arith }
  | inr large ↦ absurd (cc)
]

found_more : (text : List ℕ) (at count len end : ℕ) → IsCharacter text len → IsFound (drop len text) (at + len) (count + 1) end → IsFound text at count end
found_more text at count len end first others = record {
  inside = take len text ++ others.inside;
  after = others.after;
  value = first.byte ∷ others.value;
  text_is = sym (take-append-drop len text) ∙ ap (λ z. take len text ++ z) others.text_is ∙ sym (append_assoc (take len text) others.inside (34 ∷ others.after));
  writes = (take len text, others.inside, refl, first.writes, others.writes);
  end_is = omega (arith, others.end_is, length-append (take len text) others.inside, length-take-le len text first.within);
  small = omega (arith, others.small);
}

pub literal_found : (fuel : ℕ) (text : List ℕ) (at count end : ℕ) → length text ≤ fuel → literal_from 0 at count text ≡ Ok end → IsFound text at count end
literal_found fuel [] at count end enough h = absurd (cc)
literal_found zero (b ∷ rest) at count end enough h = absurd (omega arith)
literal_found (suc fuel) (b ∷ rest) at count end enough h = elim (cond_found (eqb b 34) _ _ _ h) [
  | inl quote ↦ let byte = eqb-true b 34 quote.0 in rw byte (found_end rest at count end quote.1)
  | inr other ↦ go (λ text from counted less found. literal_found fuel text from counted end less found) (character_front at (b ∷ rest)) refl other.0
]
  where
    go : ((text : List ℕ) (from counted : ℕ) → length text ≤ fuel → literal_from 0 from counted text ≡ Ok end → IsFound text from counted end) → (read : Result ℕ Fault) → character_front at (b ∷ rest) ≡ read → eqb b 34 ≡ false → IsFound (b ∷ rest) at count end
    go more (Err e) read other = let none = rw (other, read) at h in absurd (cc)
    go more (Ok len) read other =
        let text = b ∷ rest in
        let first = character_found at text len other read in
        let step = literal_from-character at count text len other read first.positive in
        let shorter : length (drop len text) ≤ fuel = omega (arith, length-drop len text, first.positive) in
        found_more text at count len end first (more (drop len text) (at + len) (count + 1) shorter (sym step ∙ h))
