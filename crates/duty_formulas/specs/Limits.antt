-- How large a formula may be.
use Rattle.std.specs.Prelude.{ℕ}
use Rattle.duty_formulas.specs.declared.limits.TheConstants.{LARGEST_FORMULA}

-- 500,000 nodes: how large the formula of an obligation may be
abbrev pub largest_formula : ℕ
largest_formula = LARGEST_FORMULA
