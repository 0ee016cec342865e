-- Numbers without needless zeros.
use Rattle.std.specs.Prelude.{ℕ, Bool, false, not, cond, ◌&&◌, ◌==◌, List, [], ◌∷◌, Option, None, Some, nat_lt}
use Rattle.std.specs.Char.{is_ascii_digit}
use Rattle.std.specs.List.{list_all}
use Rattle.std.specs.Str.Parse.{digits_value}

-- a 0 stands before further digits
abbrev pub has_needless_zero : List ℕ → Bool
has_needless_zero [] = false
has_needless_zero (d ∷ []) = false
has_needless_zero (d ∷ e ∷ rest) = d == 48

-- some digits that write a number below 2,000,000,000
abbrev pub are_digits : List ℕ → Bool
are_digits [] = false
are_digits (d ∷ ds) = list_all is_ascii_digit (d ∷ ds) && nat_lt (digits_value 10 (d ∷ ds)) 2000000000

abbrev pub is_number : List ℕ → Bool
is_number digits = not (has_needless_zero digits) && are_digits digits

-- the number that bytes write
abbrev pub number_of : List ℕ → Option ℕ
number_of digits = cond (is_number digits) (Some (digits_value 10 digits)) None
