-- Terms and formulas as trees.
use Rattle.std.specs.Prelude.{ℕ, ℤ, List}

-- a variable, with the sort of its quantifier and the number of quantifiers above that one; a number; a text; a function at a term
pub data Term : Type 0 where
  bound : (sort depth : ℕ) → Term
  num : ℤ → Term
  str : List ℕ → Term
  app : (function : ℕ) → Term → Term

-- `has` is a set relation at two terms, `flag` a function to truth values that gives true at a term, and `present` a function that
-- has a value there; a quantifier has a sort
pub data Formula : Type 0 where
  yes : Formula
  no : Formula
  equal : Term → Term → Formula
  less : Term → Term → Formula
  has : (relation : ℕ) → Term → Term → Formula
  flag : (function : ℕ) → Term → Formula
  present : (function : ℕ) → Term → Formula
  negation : Formula → Formula
  both : Formula → Formula → Formula
  either : Formula → Formula → Formula
  exists : (sort : ℕ) → Formula → Formula
  forall : (sort : ℕ) → Formula → Formula
