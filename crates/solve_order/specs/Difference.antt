-- Difference constraints over whole numbers in 64 bits.
use Rattle.std.specs.Prelude.{◌==◌, ℕ, ◌-◌, ◌^◌, Bool, ◌&&◌, List, length, ℤ, pos, neg_ℤ, ◌-ℤ◌, int_le, nat_lt, slice_index_or}
use Rattle.std.specs.List.{list_all}
use Rattle.std.specs.Ordering.{int_eq}
use Rattle.solve_order.specs.declared.diff.Diff.{Diff}

-- how many variables there are, how many literals there can be, and those that are asserted
pub record Constraints : Type 0 where
  pub variables : ℕ
  pub capacity : ℕ
  pub literals : List Diff

-- the number that a variable has
abbrev pub value_of : List ℤ → ℕ → ℤ
value_of numbers v = slice_index_or numbers v (pos 0)

-- a number of 64 bits with a sign
abbrev pub is_in_range : ℤ → Bool
is_in_range z = int_le (neg_ℤ (pos (2 ^ 63))) z && int_le z (pos (2 ^ 63 - 1))

-- a number in range for each variable, which is 0 for variable 0
abbrev pub is_assignment : ℕ → List ℤ → Bool
is_assignment variables numbers = (length numbers == variables) && int_eq (value_of numbers 0) (pos 0) && list_all is_in_range numbers

-- x - y is at most c
abbrev pub meets : List ℤ → Diff → Bool
meets numbers l = int_le (value_of numbers l.x -ℤ value_of numbers l.y) l.c

-- a literal over the variables, with a bound from -2^65 to 2^65
abbrev pub is_literal : ℕ → Diff → Bool
is_literal variables l = nat_lt l.x variables && nat_lt l.y variables && int_le (neg_ℤ (pos (2 ^ 65))) l.c && int_le l.c (pos (2 ^ 65))
