-- Elements for the `exists` that a formula begins with.
use Rattle.std.specs.Prelude.{◌≡◌, ◌<◌, ℕ, true, List, [], ◌∷◌, ◌++◌}
use Rattle.form_formula.specs.declared.structure.Structure.{Structure}
use Rattle.form_formula.specs.Trees.{Formula}
use Rattle.form_formula.specs.Truth.{size_of, truth}
use Rattle.form_terms.specs.Satisfying.{AreElements, body_of, leading_sorts}

-- the formula is true with these elements for the `exists` that it begins with
pub record ArePicks (s : Structure) (f : Formula) (picks : List ℕ) : Type 0 where
  pub elements : AreElements s (leading_sorts f) picks
  pub true_there : truth s picks (body_of f) ≡ true

-- an element of the sort was put behind these, and the formula is true with them all
pub record IsPick (s : Structure) (sort : ℕ) (f : Formula) (before after : List ℕ) : Type 0 where
  pub element : ℕ
  pub there : element < size_of s sort
  pub last : after ≡ before ++ element ∷ []
  pub true_there : truth s after f ≡ true

-- these elements were picked for the first `exists` of the formula, and below them stands the rest
pub record IsPickedTo (s : Structure) (f : Formula) (picks : List ℕ) (rest : Formula) : Type 0 where
  pub elements : (later : List ℕ) → AreElements s (leading_sorts rest) later → AreElements s (leading_sorts f) (picks ++ later)
  pub body : body_of f ≡ body_of rest
