-- The tests on literals and assignments as facts.
use Rattle.std.proofs.Common.{◌≡◌, ℕ, ◌^◌, ◌<◌, Bool, true, false, ◌&&◌, ℤ, pos, neg_ℤ, ◌≤ℤ◌, IsTrue, arith, refl, nat_lt}
use Rattle.std.specs.Prelude.{int_le}
use Rattle.std.proofs.lemmas.Int.{ints}
use Rattle.std.proofs.lemmas.Bool.{ltb-true}
use Rattle.std.specs.Ordering.{int_eq}
use Rattle.solve_order.specs.declared.diff.Diff.{Diff}
use Rattle.solve_order.specs.Difference.{is_literal}

pub both : (a b : Bool) → IsTrue (a && b) → IsTrue a × IsTrue b
both true b h = (refl, h)
both false b h = absurd cc

pub and : (a b : Bool) → IsTrue a → IsTrue b → IsTrue (a && b)
and true b h k = k
and false b h k = absurd cc

pub le_from_test : (a b : ℤ) → IsTrue (int_le a b) → a ≤ℤ b
le_from_test a b h = grind (arith, ints)

pub test_from_le : (a b : ℤ) → a ≤ℤ b → IsTrue (int_le a b)
test_from_le a b h = grind (arith, ints)

pub eq_from_test : (a b : ℤ) → IsTrue (int_eq a b) → a ≡ b
eq_from_test a b h = grind (arith, ints)

pub test_from_eq : (a b : ℤ) → a ≡ b → IsTrue (int_eq a b)
test_from_eq a b h = grind (arith, ints)

-- what `is_literal` tests
pub record IsLiteral (variables : ℕ) (l : Diff) : Type 0 where
  pub x_within : l.x < variables
  pub y_within : l.y < variables
  pub low : neg_ℤ (pos (2 ^ 65)) ≤ℤ l.c
  pub high : l.c ≤ℤ pos (2 ^ 65)

pub IsLiteral-from_test : (n : ℕ) (l : Diff) → IsTrue (is_literal n l) → IsLiteral n l
IsLiteral-from_test n l h =
    let a = both (nat_lt l.x n && nat_lt l.y n && int_le (neg_ℤ (pos (2 ^ 65))) l.c) (int_le l.c (pos (2 ^ 65))) h in
    let b = both (nat_lt l.x n && nat_lt l.y n) (int_le (neg_ℤ (pos (2 ^ 65))) l.c) a.0 in
    let d = both (nat_lt l.x n) (nat_lt l.y n) b.0 in
    record {
      x_within = ltb-true l.x n d.0;
      y_within = ltb-true l.y n d.1;
      low = le_from_test _ _ b.1;
      high = le_from_test _ _ a.1;
    }
