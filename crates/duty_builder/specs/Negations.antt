-- Two expressions that are asked about in the same way.
use Rattle.std.specs.Prelude.{◌≡◌, ℕ, Bool}
use Rattle.type_schema.specs.Trees.{Expr}
use Rattle.type_schema.specs.Schema.{Schema}
use Rattle.duty_meaning.specs.Cases.{condition_of}
use Rattle.duty_meaning.specs.Formulas.{Written, Scene, cases_of}

-- whether the one has this sign is, under all quantifiers and wherever it stands, whether the other has that
abbrev pub AsksTheSame : Expr → Bool → Expr → Bool → Type 0
AsksTheSame e sign e' sign' =
    (s : Schema) (written : Written) (env : Scene) (above : ℕ)
    → condition_of s (cases_of s written env e') sign' above ≡ condition_of s (cases_of s written env e) sign above
