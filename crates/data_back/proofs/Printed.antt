-- What is printed at the front of a text is read.
use Rattle.std.proofs.Common.{rules, ◌≡◌, ℕ, zero, suc, ◌+◌, ◌-◌, ◌*◌, ◌/◌, ◌%◌, ◌^◌, ◌<◌, ◌≤◌, Bool, true, false, ◌||◌, ◌&&◌, List, [], ◌∷◌, ◌++◌, take, drop, length, length-append, refl, sym, ◌∙◌, ap, arith, append_assoc, append-nil, codes}
use Rattle.std.specs.Prelude.{ℤ, pos, negsuc, Some, None, ◌==◌, nat_lt, nat_le, if◌then◌else◌, FitsSigned}
use Rattle.std.specs.Char.{is_ascii_digit, digit_value, digit_char}
use Rattle.std.specs.Fmt.{decimal, signed_decimal}
use Rattle.std.specs.Int.{w64}
use Rattle.std.specs.Int.Signed.{mag}
use Rattle.std.specs.List.{flat_map, prefix_len, list_all}
use Rattle.std.specs.Str.Parse.{AllDigits, digits_value_after}
use Rattle.std.proofs.lemmas.Bool.{eqb-true, ltb-true, lt-ltb}
use Rattle.std.proofs.lemmas.Bool.Decides.{nat_tests}
use Rattle.std.proofs.lemmas.Fmt.{decimal_is_IsNumeral}
use Rattle.std.proofs.lemmas.Slice.Eq.{bytes_eq-Decides}
use Rattle.text_ast.specs.Words.{begins_with_letter, is_name_byte, IsName}
use Rattle.text_lexer.specs.declared.limits.TheConstants.{MOST_NAME_BYTES}
use Rattle.text_print.specs.Marks.{escape, quoted}
use Rattle.data_back.specs.Reading.{after, word_at, number_from, signed_at, hex_digit, hex_at, character_at, quote, text_from, text_at, name_at}
use Rattle.data_back.specs.Laws.{EndsNumber, EndsName, PiecesAreRead}

-- ---- words

front-is : (a r : List ℕ) → take (length a) (a ++ r) ≡ a
front-is [] r = refl
front-is (x ∷ a) r = ap (λ z. x ∷ z) (front-is a r)

back-is : (a r : List ℕ) → drop (length a) (a ++ r) ≡ r
back-is [] r = refl
back-is (x ∷ a) r = back-is a r

word-read : (word rest : List ℕ) → word_at word (word ++ rest) ≡ Some (tt, rest)
word-read word rest =
    rw (front-is word rest, back-is word rest, (bytes_eq-Decides word word).1 refl) refl

-- ---- numbers

digit-is : (c : ℕ) → digit_value c < 10 → is_ascii_digit c ≡ true
digit-is c h = grind (arith, nat_tests)

digit-worth : (c : ℕ) → digit_value c < 10 → c - 48 ≡ digit_value c
digit-worth c h = grind (arith, nat_tests)

least : (n : ℕ) (ds : List ℕ) → n ≤ digits_value_after 10 n ds
least n [] = omega arith
least n (d ∷ ds) = omega (arith, least (n * 10 + digit_value d) ds)

ended : (n : ℕ) (rest : List ℕ) → EndsNumber rest → number_from n rest ≡ Some (n, rest)
ended n [] ends = refl
ended n (c ∷ rest) ends = rw ends refl

digits-read : (n : ℕ) (ds rest : List ℕ) → AllDigits 10 ds → digits_value_after 10 n ds < 2 ^ 64 → EndsNumber rest
    → number_from n (ds ++ rest) ≡ Some (digits_value_after 10 n ds, rest)
digits-read n [] rest digits small ends = ended n rest ends
digits-read n (c ∷ ds) rest digits small ends =
    let grown : 10 * n + (c - 48) ≡ n * 10 + digit_value c = omega (arith, digit-worth c digits.0) in
    let within : nat_lt (10 * n + (c - 48)) (2 ^ 64) ≡ true = lt-ltb _ _ (omega (arith, grown, small, least (n * 10 + digit_value c) ds)) in
    rw (digit-is c digits.0, within, grown) (digits-read (n * 10 + digit_value c) ds rest digits.1 small ends)

number-read : (n : ℕ) (rest : List ℕ) → n < 2 ^ 64 → EndsNumber rest → number_from 0 (decimal n ++ rest) ≡ Some (n, rest)
number-read n rest small ends =
    let is = decimal_is_IsNumeral n small in
    digits-read 0 (decimal n) rest is.0.1 (rw is.1 small) ends ∙ ap (λ k. Some (k, rest)) is.1

no-minus : (ds rest : List ℕ) → 0 < length ds → AllDigits 10 ds → signed_at (ds ++ rest) ≡ after (λ n more. if nat_lt n (2 ^ 63) then Some (pos n, more) else None) (number_from 0 (ds ++ rest))
no-minus [] rest long digits = absurd (omega (arith, long))
no-minus (c ∷ ds) rest long digits =
    let other : (c == 45) ≡ false = grind (arith, nat_tests, digits.0) in
    rw other refl

fits-mag : (n : ℤ) → FitsSigned w64 n → mag n < 2 ^ 63
fits-mag n fits = search rules

signed-read : (n : ℤ) (rest : List ℕ) → FitsSigned w64 n → EndsNumber rest → signed_at (signed_decimal n ++ rest) ≡ Some (n, rest)
signed-read (pos n) rest fits ends =
    let small : n < 2 ^ 63 = fits-mag (pos n) fits in
    let is = decimal_is_IsNumeral n (omega (arith, small)) in
    no-minus (decimal n) rest is.0.0 is.0.1 ∙ rw (number-read n rest (omega (arith, small)) ends, lt-ltb n (2 ^ 63) small) refl
signed-read (negsuc n) rest fits ends =
    let small : n < 2 ^ 63 = fits-mag (negsuc n) fits in
    let within : nat_lt (2 ^ 63) (suc n) ≡ false = grind (arith, nat_tests, small) in
    rw (number-read (suc n) rest (omega (arith, small)) ends, within) refl

-- ---- texts

hex-digit-read : (d : ℕ) → d < 16 → hex_digit (digit_char d) ≡ Some d
hex-digit-read d h = grind (arith, nat_tests)

hex-read : (b : ℕ) (rest : List ℕ) → b < 128 → hex_at (digit_char (b / 16) ∷ digit_char (b % 16) ∷ rest) ≡ Some (b, rest)
hex-read b rest small =
    let high = hex-digit-read (b / 16) (omega arith) in
    let low = hex-digit-read (b % 16) (omega arith) in
    let whole : 16 * (b / 16) + b % 16 ≡ b = omega arith in
    rw (high, low) (ap (λ n. Some (n, rest)) whole)

control-small : (b : ℕ) → (nat_lt b 32 || (b == 127)) ≡ true → b < 128
control-small b e =
    elim (nat_lt b 32) as (λ (t : Bool). nat_lt b 32 ≡ t → (t || (b == 127)) ≡ true → b < 128) [
      | true ↦ λ h _. let small : b < 32 = ltb-true b 32 h in omega (arith, small)
      | false ↦ λ h k. let same : b ≡ 127 = eqb-true b 127 k in omega (arith, same)
    ] refl e

-- what is read of the byte that is written at the front
abbrev Read : List ℕ → ℕ → List ℕ → Type 0
Read written b rest = (character_at (written ++ rest) ≡ Some (b, rest)) × (word_at quote (written ++ rest) ≡ None)

reads : (b : ℕ) (r : List ℕ) → Read (escape b) b r
reads b r =
    elim (b == 34) as (λ (t : Bool). (b == 34) ≡ t
    → Read (if t then codes "\\\"" else (if b == 92 then codes "\\\\" else (if b == 10 then codes "\\n" else (if b == 13 then codes "\\r" else (if b == 9 then codes "\\t"
    else (if nat_lt b 32 || b == 127 then codes "\\x" ++ digit_char (b / 16) ∷ digit_char (b % 16) ∷ [] else b ∷ [])))))) b r) [
      | true ↦ λ e. (ap (λ z. Some (z, r)) (sym (eqb-true b 34 e)), refl)
      | false ↦ λ no-quote.
          elim (b == 92) as (λ (t : Bool). (b == 92) ≡ t
          → Read (if t then codes "\\\\" else (if b == 10 then codes "\\n" else (if b == 13 then codes "\\r" else (if b == 9 then codes "\\t"
          else (if nat_lt b 32 || b == 127 then codes "\\x" ++ digit_char (b / 16) ∷ digit_char (b % 16) ∷ [] else b ∷ []))))) b r) [
            | true ↦ λ e. (ap (λ z. Some (z, r)) (sym (eqb-true b 92 e)), refl)
            | false ↦ λ other.
                elim (b == 10) as (λ (t : Bool). (b == 10) ≡ t
                → Read (if t then codes "\\n" else (if b == 13 then codes "\\r" else (if b == 9 then codes "\\t"
                else (if nat_lt b 32 || b == 127 then codes "\\x" ++ digit_char (b / 16) ∷ digit_char (b % 16) ∷ [] else b ∷ [])))) b r) [
                  | true ↦ λ e. (ap (λ z. Some (z, r)) (sym (eqb-true b 10 e)), refl)
                  | false ↦ λ _.
                      elim (b == 13) as (λ (t : Bool). (b == 13) ≡ t
                      → Read (if t then codes "\\r" else (if b == 9 then codes "\\t"
                      else (if nat_lt b 32 || b == 127 then codes "\\x" ++ digit_char (b / 16) ∷ digit_char (b % 16) ∷ [] else b ∷ []))) b r) [
                        | true ↦ λ e. (ap (λ z. Some (z, r)) (sym (eqb-true b 13 e)), refl)
                        | false ↦ λ _.
                            elim (b == 9) as (λ (t : Bool). (b == 9) ≡ t
                            → Read (if t then codes "\\t"
                            else (if nat_lt b 32 || b == 127 then codes "\\x" ++ digit_char (b / 16) ∷ digit_char (b % 16) ∷ [] else b ∷ [])) b r) [
                              | true ↦ λ e. (ap (λ z. Some (z, r)) (sym (eqb-true b 9 e)), refl)
                              | false ↦ λ _.
                                  elim (nat_lt b 32 || b == 127) as (λ (t : Bool). (nat_lt b 32 || b == 127) ≡ t
                                  → Read (if t then codes "\\x" ++ digit_char (b / 16) ∷ digit_char (b % 16) ∷ [] else b ∷ []) b r) [
                                    | true ↦ λ e. (hex-read b r (control-small b e), refl)
                                    | false ↦ λ _. (rw other refl, rw no-quote refl)
                                  ] refl
                            ] refl
                      ] refl
                ] refl
          ] refl
    ] refl

text-from-read : (bytes more : List ℕ) (turns : ℕ) (rest : List ℕ) → length more < turns
    → text_from bytes turns (flat_map escape more ++ 34 ∷ rest) ≡ Some (bytes ++ more, rest)
text-from-read bytes more zero rest below = absurd (omega (arith, below))
text-from-read bytes [] (suc turns) rest below = rw append-nil refl
text-from-read bytes (b ∷ more) (suc turns) rest below =
    let read = reads b (flat_map escape more ++ 34 ∷ rest) in
    rw (append_assoc (escape b) (flat_map escape more) (34 ∷ rest), read.1, read.0)
    (text-from-read (bytes ++ b ∷ []) more turns rest (omega (arith, below)) ∙ ap (λ z. Some (z, rest)) (append_assoc bytes (b ∷ []) more))

written-long : (b : ℕ) → 1 ≤ length (escape b)
written-long b = search rules

all-long : (bytes : List ℕ) → length bytes ≤ length (flat_map escape bytes)
all-long [] = omega arith
all-long (b ∷ bytes) = omega (arith, written-long b, all-long bytes, length-append (escape b) (flat_map escape bytes))

text-read : (bytes rest : List ℕ) → text_at (quoted bytes ++ rest) ≡ Some (bytes, rest)
text-read bytes rest =
    let inside = flat_map escape bytes ++ 34 ∷ rest in
    let whole : quoted bytes ++ rest ≡ quote ++ inside = ap (λ z. 34 ∷ z) (append_assoc (flat_map escape bytes) (34 ∷ []) rest) in
    let long : length bytes < length inside = omega (arith, all-long bytes, length-append (flat_map escape bytes) (34 ∷ rest)) in
    ap text_at whole ∙ text-from-read [] bytes (length inside) rest long

-- ---- names

and-both : (a b : Bool) → a && b ≡ true → (a ≡ true) × (b ≡ true)
and-both true b e = (refl, e)
and-both false b e = cc

run-end : (name rest : List ℕ) → list_all is_name_byte name ≡ true → EndsName rest → prefix_len is_name_byte (name ++ rest) ≡ length name
run-end [] [] all ends = refl
run-end [] (c ∷ rest) all ends = rw ends refl
run-end (x ∷ name) rest all ends =
    let parts = and-both (is_name_byte x) (list_all is_name_byte name) all in
    rw (parts.0, run-end name rest parts.1 ends) (omega arith)

all-of-name : (x : List ℕ) → IsName x → list_all is_name_byte x ≡ true
all-of-name x is =
    (and-both (begins_with_letter x) (list_all is_name_byte x) (and-both (begins_with_letter x && list_all is_name_byte x) (nat_le (length x) MOST_NAME_BYTES) is).0).1

name-read : (name rest : List ℕ) → IsName name → EndsName rest → name_at (name ++ rest) ≡ Some (name, rest)
name-read name rest is ends = rw (run-end name rest (all-of-name name is) ends, front-is name rest, back-is name rest) refl

pub pieces-read : PiecesAreRead
pieces-read = record { word = word-read; number = number-read; signed = signed-read; text = text-read; name = name-read }
