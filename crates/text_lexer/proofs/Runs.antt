-- Runs of bytes that pass a test.
use Rattle.std.proofs.Common.{◌≡◌, ℕ, zero, suc, ◌+◌, ◌-◌, ◌*◌, ◌<◌, ◌≤◌, Bool, true, List, [], ◌∷◌, length, take, drop, refl, inl, inr, ◌⊎◌, arith, slice_index}
use Rattle.std.specs.List.{prefix_len, list_all}
use Rattle.std.specs.Str.Parse.{digits_value_after}
use Rattle.std.specs.Char.{digit_value, is_ascii_digit}
use Rattle.std.proofs.lemmas.Bool.Decides.{nat_tests}
use Rattle.std.proofs.lemmas.Bool.{both_ways, cases_lt, and_parts, and_from}
use Rattle.std.proofs.lemmas.List.{get_or-take, length-take-le}
use Rattle.std.proofs.lemmas.List.Sums.{prefix_len-le-length, prefix_len_passes, prefix_len_stops, list_all-from_AllPass, AllPass-from_list_all}
use Rattle.text_lexer.specs.Lexeme.{is_run}

-- the bytes that `prefix_len` counts pass
pub list_all-take-prefix_len : (p : ℕ → Bool) (bytes : List ℕ) → list_all p (take (prefix_len p bytes) bytes) ≡ true
list_all-take-prefix_len p bytes =
    list_all-from_AllPass p _ (λ k d below.
    let fits = prefix_len-le-length p bytes in
    let counted : k < prefix_len p bytes = omega (arith, length-take-le (prefix_len p bytes) bytes fits) in
    rw get_or-take (prefix_len_passes p bytes k d counted))

-- no more than those pass
pub prefix_len-most : (p : ℕ → Bool) (bytes : List ℕ) (n : ℕ) → n ≤ length bytes → list_all p (take n bytes) ≡ true → n ≤ prefix_len p bytes
prefix_len-most p bytes n fits passes = go (cases_lt (prefix_len p bytes) n)
  where
    go : (prefix_len p bytes < n) ⊎ (n ≤ prefix_len p bytes) → n ≤ prefix_len p bytes
    go (inr most) = most
    go (inl less) =
        let within : prefix_len p bytes < length bytes = omega arith in
        let stops = prefix_len_stops p bytes 0 within in
        let inside : prefix_len p bytes < length (take n bytes) = omega (arith, length-take-le n bytes fits) in
        let here = AllPass-from_list_all p (take n bytes) passes (prefix_len p bytes) 0 inside in
        absurd (both_ways _ stops (rw get_or-take at here))

-- bytes at the front that pass are counted first
pub prefix_len-past : (p : ℕ → Bool) (n : ℕ) (bytes : List ℕ) → n ≤ length bytes → list_all p (take n bytes) ≡ true → n + prefix_len p (drop n bytes) ≡ prefix_len p bytes
prefix_len-past p zero bytes fits passes = omega arith
prefix_len-past p (suc n) [] fits passes = absurd (omega arith)
prefix_len-past p (suc n) (b ∷ rest) fits passes =
    let parts = and_parts (p b) (list_all p (take n rest)) passes in
    let more = prefix_len-past p n rest (omega arith) parts.1 in
    rw parts.0 (omega (arith, more))

-- digits that follow others write no less
pub digits_value_after-least : (n : ℕ) (digits : List ℕ) → n ≤ digits_value_after 10 n digits
digits_value_after-least n [] = omega arith
digits_value_after-least n (d ∷ digits) = omega (arith, digits_value_after-least (n * 10 + digit_value d) digits)

pub prefix_len-positive : (p : ℕ → Bool) (bytes : List ℕ) → 0 < length bytes → p (slice_index bytes 0) ≡ true → 0 < prefix_len p bytes
prefix_len-positive p [] some h = absurd (omega arith)
prefix_len-positive p (b ∷ rest) some h = rw h (omega arith)

module _ (first next : ℕ → Bool) where
  pub is_run-passes : ((b : ℕ) → first b ≡ true → next b ≡ true) → (bytes : List ℕ) → is_run first next bytes ≡ true → list_all next bytes ≡ true
  is_run-passes goes_on [] h = refl
  is_run-passes goes_on (b ∷ rest) h =
      let parts = and_parts (first b) (list_all next rest) h in and_from _ _ (goes_on b parts.0) parts.1

  pub is_run-first : (bytes : List ℕ) → is_run first next bytes ≡ true → first (slice_index bytes 0) ≡ true
  is_run-first [] h = absurd (cc)
  is_run-first (b ∷ rest) h = (and_parts (first b) (list_all next rest) h).0

  pub is_run-take : (bytes : List ℕ) (n : ℕ) → 0 < n → 0 < length bytes → first (slice_index bytes 0) ≡ true → list_all next (take n bytes) ≡ true → is_run first next (take n bytes) ≡ true
  is_run-take bytes zero some full h passes = absurd (omega arith)
  is_run-take [] (suc n) some full h passes = absurd (omega arith)
  is_run-take (b ∷ rest) (suc n) some full h passes =
      and_from _ _ h (and_parts (next b) (list_all next (take n rest)) passes).1

pub digit_value-digit : (b : ℕ) → is_ascii_digit b ≡ true → digit_value b ≡ b - 48
digit_value-digit b h = grind (arith, nat_tests)
