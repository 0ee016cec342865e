-- Numbers as they are printed may be tokens.
use Rattle.std.proofs.Common.{◌≡◌, ◌<◌, ◌≤◌, ◌^◌, ℕ, zero, suc, true, false, List, [], ◌∷◌, get_or, length, refl, sym, subst, arith}
use Rattle.std.specs.Char.{is_ascii_digit}
use Rattle.std.specs.Fmt.{decimal}
use Rattle.std.specs.List.{list_all}
use Rattle.std.specs.Str.{all_ascii_digits}
use Rattle.std.specs.Str.Parse.{digits_value}
use Rattle.std.proofs.lemmas.Bool.{ne_eqb}
use Rattle.std.proofs.lemmas.Fmt.{IsAscii-decimal, decimal_digit, decimal_is_IsNumeral, decimal_nonempty, digits_decimal, first_decimal}
use Rattle.std.proofs.lemmas.Str.{IsUtf8-from_ascii}
use Rattle.std.proofs.lemmas.Str.Parse.{numerals_by_value, tells_all_ascii_digits}
use Rattle.text_lexer.specs.declared.limits.TheConstants.{LARGEST_NUMBER}
use Rattle.text_lexer.specs.declared.token.TokenKind.TheVariants as k
use Rattle.text_lexer.specs.Lexeme.{has_needless_zero, is_run}
use Rattle.text_lexer.specs.Written.{IsPart}

run-of : (ds : List ℕ) → 0 < length ds → all_ascii_digits ds ≡ true → is_run is_ascii_digit is_ascii_digit ds ≡ true
run-of [] some all = absurd (omega arith)
run-of (d ∷ ds) some all = same d ds all
  where
    rest : (ds : List ℕ) → all_ascii_digits ds ≡ list_all is_ascii_digit ds
    rest [] = refl
    rest (d ∷ ds) = rw (rest ds) refl

    same : (d : ℕ) (ds : List ℕ) → all_ascii_digits (d ∷ ds) ≡ true → is_run is_ascii_digit is_ascii_digit (d ∷ ds) ≡ true
    same d ds all = rw (← rest ds) all

no-zero : (ds : List ℕ) → 48 < get_or ds 0 0 → has_needless_zero ds ≡ false
no-zero [] above = refl
no-zero (d ∷ []) above = refl
no-zero (d ∷ e ∷ ds) above = ne_eqb d 48 (λ same. omega (arith, above, same))

plain : (n : ℕ) → n < 2 ^ 64 → has_needless_zero (decimal n) ≡ false
plain zero small = rw (decimal_digit 0 (omega arith)) refl
plain (suc n) small = no-zero (decimal (suc n)) (first_decimal (suc n) (omega arith) small)

pub value-of : (n : ℕ) → n ≤ LARGEST_NUMBER → digits_value 10 (decimal n) ≡ n
value-of n low = (decimal_is_IsNumeral n (omega (arith, low))).1

pub number-part : (n : ℕ) → n ≤ LARGEST_NUMBER → IsPart (record { kind = k.Number; bytes = decimal n })
number-part n low =
    let small : n < 2 ^ 64 = omega (arith, low) in
    let digits = digits_decimal (numerals_by_value (λ ds. all_ascii_digits ds ≡ true) tells_all_ascii_digits) n small in
    let value : digits_value 10 (decimal n) ≤ LARGEST_NUMBER = subst (λ z. z ≤ LARGEST_NUMBER) (sym (value-of n low)) low in
    record {
      lexeme = record { form = run-of (decimal n) (decimal_nonempty n small) digits; limits = (plain n small, value) };
      utf8 = IsUtf8-from_ascii (decimal n) (IsAscii-decimal n small);
    }
