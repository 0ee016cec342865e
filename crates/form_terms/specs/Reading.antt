-- A formula read over ground terms.
use Rattle.std.specs.Prelude.{◌≡◌, ℕ, ◌+◌, Bool, not, ◌⊎◌, List, [], ◌∷◌, ◌++◌, Some, Contains, IsTrue, is_some}
use Rattle.form_formula.specs.declared.structure.Signature.{Signature}
use Rattle.form_formula.specs.declared.structure.Structure.{Structure}
use Rattle.form_formula.specs.Over.{IsOver}
use Rattle.form_formula.specs.Trees.{Formula, yes, no, equal, less, has, flag, present, negation, both, either, exists, forall}
use Rattle.form_formula.specs.Truth.{truth}
use Rattle.form_terms.specs.GroundTerms.{GroundTerm, GroundTerms, skolem, and_last, sort_of}
use Rattle.form_terms.specs.Parts.{quantifiers}
use Rattle.form_terms.specs.Universe.{IsAppliedTo}
use Rattle.form_terms.specs.Passing.{Choice, element_named}

-- the atoms of a formula
abbrev pub atoms_of : Formula → List Formula
atoms_of yes = []
atoms_of no = []
atoms_of (equal t u) = equal t u ∷ []
atoms_of (less t u) = less t u ∷ []
atoms_of (has r t u) = has r t u ∷ []
atoms_of (flag h t) = flag h t ∷ []
atoms_of (present h t) = present h t ∷ []
atoms_of (negation a) = atoms_of a
atoms_of (both a b) = atoms_of a ++ atoms_of b
atoms_of (either a b) = atoms_of a ++ atoms_of b
atoms_of (exists sort a) = atoms_of a
atoms_of (forall sort a) = atoms_of a

module _ (g : Signature) (is_there : GroundTerm → Bool) (holds : List GroundTerm → Formula → Bool) (terms : List GroundTerm) where
  -- the formula, where some of the terms are there, and atoms hold or do not where the variables above are these terms: an `exists` is
  -- its own term, if that is there, and a `forall` is each term of its sort that is there; the `forall`s above are the second terms
  abbrev pub Reads : ℕ → List GroundTerm → GroundTerms → Formula → Type 0
  Reads number env args yes = Unit {0}
  Reads number env args no = ⊥
  Reads number env args (equal t u) = IsTrue (holds env (equal t u))
  Reads number env args (less t u) = IsTrue (holds env (less t u))
  Reads number env args (has r t u) = IsTrue (holds env (has r t u))
  Reads number env args (flag h t) = IsTrue (holds env (flag h t))
  Reads number env args (present h t) = IsTrue (holds env (present h t))
  Reads number env args (negation a) = IsTrue (not (holds env a))
  Reads number env args (both a b) = Reads number env args a × Reads (number + quantifiers a) env args b
  Reads number env args (either a b) = Reads number env args a ⊎ Reads (number + quantifiers a) env args b
  Reads number env args (exists sort a) =
      IsTrue (is_there (skolem number sort args)) × Reads (number + 1) (env ++ skolem number sort args ∷ []) args a
  Reads number env args (forall sort a) =
      (t : GroundTerm) → Contains terms t → sort_of g t ≡ Some sort → IsTrue (is_there t) → Reads (number + 1) (env ++ t ∷ []) (and_last args t) a

-- terms of these sorts, from the list, that name these elements
abbrev pub AreNamed : Signature → Structure → Choice → List GroundTerm → List ℕ → List GroundTerm → List ℕ → Type 0
AreNamed g s c terms [] [] [] = Unit {0}
AreNamed g s c terms [] [] (x ∷ xs) = ⊥
AreNamed g s c terms [] (t ∷ ts) xs = ⊥
AreNamed g s c terms (sort ∷ sorts) [] xs = ⊥
AreNamed g s c terms (sort ∷ sorts) (t ∷ ts) [] = ⊥
AreNamed g s c terms (sort ∷ sorts) (t ∷ ts) (x ∷ xs) =
    (Contains terms t × (sort_of g t ≡ Some sort) × (element_named s c t ≡ Some x)) × AreNamed g s c terms sorts ts xs

-- a list of the terms that a reading speaks of has those over which it ranges, and whatever is applied to them
pub record Speaks (g : Signature) (f : Formula) (terms spoken : List GroundTerm) : Type 0 where
  pub ranged : (t : GroundTerm) → Contains terms t → Contains spoken t
  pub applied : (t : GroundTerm) → IsAppliedTo g f (Contains terms) t → Contains spoken t

-- the terms that are there name elements, and the atoms of the formula hold where they are true of the elements that the terms name
pub record Agree (g : Signature) (f : Formula) (s : Structure) (c : Choice) (terms : List GroundTerm) (is_there : GroundTerm → Bool)
    (holds : List GroundTerm → Formula → Bool) : Type 0 where
  pub there : (t : GroundTerm) → Contains terms t → is_there t ≡ is_some (element_named s c t)
  pub atoms : (a : Formula) (scope : List ℕ) (env : List GroundTerm) (xs : List ℕ) → Contains (atoms_of f) a → IsOver g scope a
      → AreNamed g s c terms scope env xs → holds env a ≡ truth s xs a
