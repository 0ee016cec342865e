-- Structures that satisfy a formula.
use Rattle.std.specs.Prelude.{◌+◌, unwrap_or, ◌<◌, ℕ, List, ◌∷◌, ◌≡◌, [], true}
use Rattle.form_formula.specs.declared.structure.Signature.{Signature}
use Rattle.form_formula.specs.declared.structure.Structure.{Structure}
use Rattle.form_formula.specs.Trees.{Formula, yes, no, equal, less, has, flag, present, negation, both, either, exists, forall}
use Rattle.form_formula.specs.Truth.{truth}
use Rattle.form_terms.specs.Passing.{Choice}
use Rattle.form_terms.specs.Structures.{IsStructure, size_of}

-- the structure is over the signature, and the closed formula is true on it
pub record Satisfies (g : Signature) (f : Formula) (s : Structure) : Type 0 where
  pub structure : IsStructure g s
  pub true_there : truth s [] f ≡ true

-- some finite structure satisfies the formula
abbrev pub IsSatisfiable : Signature → Formula → Type 0
IsSatisfiable g f = (s : Structure) × Satisfies g f s

-- the sorts of the `exists` that a formula begins with
abbrev pub leading_sorts : Formula → List ℕ
leading_sorts yes = []
leading_sorts no = []
leading_sorts (equal t u) = []
leading_sorts (less t u) = []
leading_sorts (has r t u) = []
leading_sorts (flag f t) = []
leading_sorts (present f t) = []
leading_sorts (negation a) = []
leading_sorts (both a b) = []
leading_sorts (either a b) = []
leading_sorts (exists sort a) = sort ∷ leading_sorts a
leading_sorts (forall sort a) = []

-- the elements that are chosen for the variables of these, the first of which has this number
abbrev pub leading_elements : Choice → ℕ → Formula → List ℕ
leading_elements c number yes = []
leading_elements c number no = []
leading_elements c number (equal t u) = []
leading_elements c number (less t u) = []
leading_elements c number (has r t u) = []
leading_elements c number (flag f t) = []
leading_elements c number (present f t) = []
leading_elements c number (negation a) = []
leading_elements c number (both a b) = []
leading_elements c number (either a b) = []
leading_elements c number (exists sort a) = unwrap_or (c.variable number []) 0 ∷ leading_elements c (number + 1) a
leading_elements c number (forall sort a) = []

-- what stands below these
abbrev pub body_of : Formula → Formula
body_of yes = yes
body_of no = no
body_of (equal t u) = equal t u
body_of (less t u) = less t u
body_of (has r t u) = has r t u
body_of (flag f t) = flag f t
body_of (present f t) = present f t
body_of (negation a) = negation a
body_of (both a b) = both a b
body_of (either a b) = either a b
body_of (exists sort a) = body_of a
body_of (forall sort a) = forall sort a

-- an element of each sort
abbrev pub AreElements : Structure → List ℕ → List ℕ → Type 0
AreElements s [] [] = Unit {0}
AreElements s [] (x ∷ xs) = ⊥
AreElements s (sort ∷ sorts) [] = ⊥
AreElements s (sort ∷ sorts) (x ∷ xs) = (x < size_of s sort) × AreElements s sorts xs

-- the closed formula is true with these elements for the `exists` that it begins with
pub record SatisfiesWith (g : Signature) (f : Formula) (s : Structure) (picks : List ℕ) : Type 0 where
  pub structure : IsStructure g s
  pub elements : AreElements s (leading_sorts f) picks
  pub true_there : truth s picks (body_of f) ≡ true
