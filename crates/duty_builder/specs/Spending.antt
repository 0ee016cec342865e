-- What a writer spends where nobody asks for the formulas.
use Rattle.std.specs.Prelude.{◌≡◌, ℕ, ◌+◌, map, sum, Result, Ok, Err}
use Rattle.std.specs.List.{range_with_len}
use Rattle.type_schema.specs.Schema.{Schema}
use Rattle.type_schema.specs.Trees.{Init}
use Rattle.duty_meaning.specs.Formulas.{Written}
use Rattle.duty_meaning.specs.Reach.{init_reach}
use Rattle.duty_meaning.specs.Sizes.{size, row, other}
use Rattle.duty_writer.specs.declared.make_err.MakeErr.{MakeErr}
use Rattle.duty_writer.specs.declared.writer.Writer.{Writer}
use Rattle.duty_writer.specs.Made.{IsCause}

-- so much was taken off what was left, or more than that was asked for
abbrev pub Spends : {A : Type 0} → ℕ → Writer → Result A MakeErr → Writer → Type 0
Spends cost old (Ok v) new = old.left ≡ new.left + cost
Spends cost old (Err e) new = IsCause cost old e

-- the sizes of so many uses of fields in an initialiser, from a number on
abbrev pub use_sizes : Schema → Written → Init → ℕ → ℕ → ℕ
use_sizes s written init from count = sum (map (λ number. size (init_reach s written other init row number 2)) (range_with_len from count))
