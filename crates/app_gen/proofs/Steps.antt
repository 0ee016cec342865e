-- The texts up to a number, by those up to the one before it.
use Rattle.std.proofs.Common.{◌≡◌, ℕ, zero, suc, ◌+◌, ◌-◌, [], ◌++◌, refl, ap, arith}
use Rattle.app_gen.specs.Generated.{of_level, command_text, field_text, fields_text, tightened_text, script_text, loosened_text}

pub fields_next : (n : ℕ) → fields_text (n + 1) ≡ fields_text n ++ field_text (n + 1)
fields_next n = let next : n + 1 ≡ suc n = omega arith in rw next refl

pub script_next : (n : ℕ) → script_text (n + 1) ≡ script_text n ++ tightened_text (n + 1)
script_next n = let next : n + 1 ≡ suc n = omega arith in rw next refl

pub loosened_step : (n : ℕ) → (n ≡ 0 → ⊥) → loosened_text n ≡ script_text (n - 1) ++ command_text n [] (of_level n)
loosened_step zero not_zero = absurd (not_zero refl)
loosened_step (suc n) not_zero = let same : n ≡ suc n - 1 = omega arith in ap (λ k. script_text k ++ command_text (suc n) [] (of_level (suc n))) same
