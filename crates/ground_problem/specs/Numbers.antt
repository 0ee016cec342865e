-- Facts as variables.
use Rattle.std.specs.Prelude.{◌≡◌, ℕ, List, [], ◌∷◌, ◌++◌, Some, slice_get}
use Rattle.ground_gates.specs.declared.gate.Literal.{Literal}
use Rattle.ground_problem.specs.declared.facts.FactNode.{FactNode}
use Rattle.ground_problem.specs.declared.facts.FactLiteral.{FactLiteral}
use Rattle.ground_problem.specs.declared.numbering.Numbering.{Numbering}

-- the elements of two lists stand for each other, one by one
abbrev pub Zips : {A B : Type 0} → (A → B → Type 0) → List A → List B → Type 0
Zips R [] [] = Unit {0}
Zips R [] (y ∷ ys) = ⊥
Zips R (x ∷ xs) [] = ⊥
Zips R (x ∷ xs) (y ∷ ys) = R x y × Zips R xs ys

module _ (facts : List FactNode) where
  -- the variable is the fact's place
  abbrev pub IsNumber : ℕ → FactNode → Type 0
  IsNumber x fact = slice_get facts x ≡ Some fact

  abbrev pub AreNumbers : List ℕ → List FactNode → Type 0
  AreNumbers xs ps = Zips IsNumber xs ps

  abbrev pub IsLiteralFor : Literal → FactLiteral → Type 0
  IsLiteralFor l p = IsNumber l.var p.fact × (l.plus ≡ p.plus)

  abbrev pub AreLiterals : List Literal → List FactLiteral → Type 0
  AreLiterals ls ps = Zips IsLiteralFor ls ps

-- all facts are there as before, under their numbers
pub record KeepsFacts (old new : Numbering) : Type 0 where
  pub more : List FactNode
  pub whole : new.facts.keys ≡ old.facts.keys ++ more
