-- Uses of fields at each record of a set.
use Rattle.std.proofs.Common.{◌≡◌, ℕ, suc, ◌≤◌, true, List, [], ◌∷◌, ◌++◌, arith}
use Rattle.type_schema.specs.Schema.{Schema}
use Rattle.type_schema.specs.Trees.{SetExpr}
use Rattle.form_formula.specs.Trees.{Term, Formula, bound, both, exists}
use Rattle.duty_meaning.specs.Sizes.{size}
use Rattle.duty_meaning.specs.Structures.{sort_of}
use Rattle.duty_meaning.specs.Cases.{Cases, at_term}
use Rattle.duty_meaning.specs.Formulas.{record_at, Written, is_in}
use Rattle.duty_builder.specs.declared.values.Use.{Use}
use Rattle.duty_builder.specs.Places.{use_data, each_formula}
use Rattle.duty_builder.proofs.Walks.{ap2}

module _ (s : Schema) (written : Written) (y : Term) (env : List Cases) (above : ℕ) where
  -- below the quantifier
  abbrev pub each_body : SetExpr → ℕ → Use → ℕ → ℕ → Formula
  each_body set n used sort inner =
      both (is_in s written env set (record_at n (bound sort above)) true inner) (use_data s written y (env ++ at_term (bound sort above) ∷ []) used inner)

  pub each_same : (set : SetExpr) (n : ℕ) (used : Use) (sort inner : ℕ) → sort ≡ sort_of s n → inner ≡ suc above
      → exists sort (each_body set n used sort inner) ≡ each_formula s written y env set n used above
  each_same set n used sort inner is deeper = ap2 (λ k i. exists k (each_body set n used k i)) is deeper

-- the formula below it is smaller
pub exists_le : (sort : ℕ) (f : Formula) → size f ≤ size (exists sort f)
exists_le sort f = omega arith
