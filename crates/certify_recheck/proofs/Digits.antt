-- Digits that write too large a number.
use Rattle.std.proofs.Common.{◌≡◌, ℕ, ◌+◌, ◌-◌, ◌*◌, ◌≤◌, Bool, true, ◌&&◌, cond, List, [], ◌∷◌, Option, None, Some, ltb, sym, arith}
use Rattle.std.specs.Char.{digit_value, is_ascii_digit}
use Rattle.std.specs.Str.Parse.{digits_value, digits_value_after}
use Rattle.std.proofs.lemmas.Bool.{and_right, cond-false, le-ltb}
use Rattle.std.proofs.lemmas.Bool.Decides.{nat_tests}

-- digits that follow others write no less
value_after-least : (n : ℕ) (digits : List ℕ) → n ≤ digits_value_after 10 n digits
value_after-least n [] = omega arith
value_after-least n (d ∷ digits) = omega (arith, value_after-least (n * 10 + digit_value d) digits)

value-digit : (b : ℕ) → is_ascii_digit b ≡ true → digit_value b ≡ b - 48
value-digit b h = grind (arith, nat_tests)

pub too_large : (n d : ℕ) (digits rest : List ℕ) (all : Bool) → digits_value_after 10 n (d ∷ rest) ≡ digits_value 10 digits → is_ascii_digit d ≡ true → 2000000000 ≤ 10 * n + (d - 48)
    → ◌≡◌ {A = Option ℕ} None (cond (all && ltb (digits_value 10 digits) 2000000000) (Some (digits_value 10 digits)) None)
too_large n d digits rest all e h large =
    let least : n * 10 + digit_value d ≤ digits_value_after 10 (n * 10 + digit_value d) rest = value_after-least (n * 10 + digit_value d) rest in
    let f : digits_value_after 10 (n * 10 + digit_value d) rest ≡ digits_value 10 digits = e in
    let past = le-ltb (digits_value 10 digits) 2000000000 (omega (arith, value-digit d h)) in
    sym (cond-false (all && ltb (digits_value 10 digits) 2000000000) (Some (digits_value 10 digits)) None (and_right all (ltb (digits_value 10 digits) 2000000000) past))
