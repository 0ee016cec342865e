-- Structures that pass a formula over a set of terms.
use Rattle.std.specs.Prelude.{◌≡◌, ℕ, ◌+◌, ◌<◌, not, ◌⊎◌, List, [], ◌∷◌, ◌++◌, Option, Some, option_and_then, Contains, IsTrue}
use Rattle.std.specs.Option.{option_map}
use Rattle.form_formula.specs.declared.structure.Signature.{Signature}
use Rattle.form_formula.specs.declared.structure.Structure.{Structure}
use Rattle.form_formula.specs.Trees.{Formula, yes, no, equal, less, has, flag, present, negation, both, either, exists, forall}
use Rattle.form_formula.specs.Truth.{truth, entry, element_of}
use Rattle.form_terms.specs.GroundTerms.{GroundTerm, GroundTerms, constant, skolem, field, no_terms, term_and, sort_of}
use Rattle.form_terms.specs.Parts.{Variable, quantifiers}
use Rattle.form_terms.specs.Universe.{variables_of, is_needed}
use Rattle.form_terms.specs.Structures.{IsStructure, size_of}

-- a choice of elements: the constant of a sort, and what the variable of an `exists` is at the elements of the `forall`s above it
pub record Choice : Type 0 where
  pub constant : ℕ → Option ℕ
  pub variable : ℕ → List ℕ → Option ℕ

-- the constants and the variables are elements, and a needed sort that is not empty has a constant
pub record IsChoice (g : Signature) (s : Structure) (f : Formula) (c : Choice) : Type 0 where
  pub constants : (sort x : ℕ) → c.constant sort ≡ Some x → x < size_of s sort
  pub needed : (sort : ℕ) → IsTrue (is_needed g f sort) → 0 < size_of s sort → (x : ℕ) × (c.constant sort ≡ Some x)
  pub variables : (v : Variable) (xs : List ℕ) (x : ℕ) → Contains (variables_of g f) v → c.variable v.number xs ≡ Some x → x < size_of s v.sort

module _ (s : Structure) (c : Choice) where
  abbrev mutual
    -- the element that a ground term names, if it names one
    pub element_named : GroundTerm → Option ℕ
    element_named (constant sort) = c.constant sort
    element_named (skolem number sort ts) = option_and_then (c.variable number) (elements_named ts)
    element_named (field h t) = option_and_then element_of (option_and_then (entry s h) (element_named t))

    pub elements_named : GroundTerms → Option (List ℕ)
    elements_named no_terms = Some []
    elements_named (term_and t ts) = option_and_then (λ x. option_map (λ xs. x ∷ xs) (elements_named ts)) (element_named t)

module _ (g : Signature) (s : Structure) (c : Choice) (P : GroundTerm → Type 0) where
  -- a term of the set names the element, as one of the sort
  abbrev pub IsNamed : ℕ → ℕ → Type 0
  IsNamed sort x = (t : GroundTerm) × P t × (sort_of g t ≡ Some sort) × (element_named s c t ≡ Some x)

  -- the formula holds where each `exists` is read at the element that its variable is, as no where it is none, and each `forall` ranges
  -- over the elements that terms of the set name; the variables above have the elements of the first list, and those of `forall`s the
  -- elements of the second
  abbrev pub HoldsOver : ℕ → List ℕ → List ℕ → Formula → Type 0
  HoldsOver number env xs yes = Unit {0}
  HoldsOver number env xs no = ⊥
  HoldsOver number env xs (equal t u) = IsTrue (truth s env (equal t u))
  HoldsOver number env xs (less t u) = IsTrue (truth s env (less t u))
  HoldsOver number env xs (has r t u) = IsTrue (truth s env (has r t u))
  HoldsOver number env xs (flag f t) = IsTrue (truth s env (flag f t))
  HoldsOver number env xs (present f t) = IsTrue (truth s env (present f t))
  HoldsOver number env xs (negation a) = IsTrue (not (truth s env a))
  HoldsOver number env xs (both a b) = HoldsOver number env xs a × HoldsOver (number + quantifiers a) env xs b
  HoldsOver number env xs (either a b) = HoldsOver number env xs a ⊎ HoldsOver (number + quantifiers a) env xs b
  HoldsOver number env xs (exists sort a) = (x : ℕ) × (c.variable number xs ≡ Some x) × HoldsOver (number + 1) (env ++ x ∷ []) xs a
  HoldsOver number env xs (forall sort a) = (x : ℕ) → x < size_of s sort → IsNamed sort x → HoldsOver (number + 1) (env ++ x ∷ []) (xs ++ x ∷ []) a

-- the structure passes the formula, in normal form, over the set of terms, with this choice
pub record PassesWith (g : Signature) (f : Formula) (P : GroundTerm → Type 0) (s : Structure) (c : Choice) : Type 0 where
  pub choice : IsChoice g s f c
  pub holds : HoldsOver g s c P 0 [] [] f

abbrev pub Passes : Signature → Formula → (GroundTerm → Type 0) → Structure → Type 0
Passes g f P s = (c : Choice) × PassesWith g f P s c

-- some finite structure does
abbrev pub IsSatisfiableOver : Signature → Formula → (GroundTerm → Type 0) → Type 0
IsSatisfiableOver g f P = (s : Structure) × IsStructure g s × Passes g f P s
