-- Formulas without quantifiers, and the terms of their atoms.
use Rattle.std.specs.Prelude.{◌≡◌, ◌⊎◌, ◌<◌, ℕ, List, [], ◌∷◌, ◌++◌, Contains, map, reverse, Option, Bool, true}
use Rattle.std.specs.List.{AllByRecursion, flat_map}
use Rattle.form_formula.specs.declared.node.Node.{Node}
use Rattle.form_formula.specs.declared.node.Node.TheVariants as node
use Rattle.form_formula.specs.Nodes.{IsFormula, IsTerm, formula_of, term_of}
use Rattle.form_formula.specs.Trees.{Term, Formula, yes, no, equal, less, has, flag, present, negation, both, either, exists, forall}
use Rattle.form_terms.specs.Parts.{quantifiers}
use Rattle.form_terms.specs.Parts as tree
use Rattle.ground_terms.specs.declared.matrix.MatrixWalk.{MatrixWalk}
use Rattle.ground_terms.specs.declared.part.Name.{Name}
use Rattle.ground_terms.specs.declared.part.Part.{Part}
use Rattle.ground_terms.specs.Codes.{is_marked}
use Rattle.ground_terms.specs.Parts.{AreParts, Thins, ground_names}

-- the terms of the atoms of a formula, in reading order
abbrev pub atom_terms : Formula → List Term
atom_terms yes = []
atom_terms no = []
atom_terms (equal t u) = t ∷ u ∷ []
atom_terms (less t u) = t ∷ u ∷ []
atom_terms (has r t u) = t ∷ u ∷ []
atom_terms (flag f t) = t ∷ []
atom_terms (present f t) = t ∷ []
atom_terms (negation a) = atom_terms a
atom_terms (both a b) = atom_terms a ++ atom_terms b
atom_terms (either a b) = atom_terms a ++ atom_terms b
atom_terms (exists sort a) = atom_terms a
atom_terms (forall sort a) = atom_terms a

-- what any term may be left out for
abbrev pub AnyTerm : Term → Type 0
AnyTerm t = Unit {0}

-- the formulas that a node is made of, in reading order, where it is no quantifier
abbrev pub matrix_parts : Node → List ℕ
matrix_parts (node.Bound sort depth) = []
matrix_parts (node.Num n) = []
matrix_parts (node.Str t) = []
matrix_parts (node.App f t) = []
matrix_parts node.Yes = []
matrix_parts node.No = []
matrix_parts (node.Eq s t) = []
matrix_parts (node.Less s t) = []
matrix_parts (node.Has f s t) = []
matrix_parts (node.Flag f t) = []
matrix_parts (node.Present f t) = []
matrix_parts (node.Not a) = a ∷ []
matrix_parts (node.And a b) = a ∷ b ∷ []
matrix_parts (node.Or a b) = a ∷ b ∷ []
matrix_parts (node.Exists sort a) = []
matrix_parts (node.Forall sort a) = []

-- the terms of an atom, the last one first
abbrev pub matrix_terms : Node → List ℕ
matrix_terms (node.Bound sort depth) = []
matrix_terms (node.Num n) = []
matrix_terms (node.Str t) = []
matrix_terms (node.App f t) = []
matrix_terms node.Yes = []
matrix_terms node.No = []
matrix_terms (node.Eq s t) = t ∷ s ∷ []
matrix_terms (node.Less s t) = t ∷ s ∷ []
matrix_terms (node.Has f s t) = t ∷ s ∷ []
matrix_terms (node.Flag f t) = t ∷ []
matrix_terms (node.Present f t) = t ∷ []
matrix_terms (node.Not a) = []
matrix_terms (node.And a b) = []
matrix_terms (node.Or a b) = []
matrix_terms (node.Exists sort a) = []
matrix_terms (node.Forall sort a) = []

-- where these numbers are those of formulas without quantifiers, so is the node's
abbrev pub IsPlainNode : (ℕ → Type 0) → Node → Type 0
IsPlainNode plain (node.Bound sort depth) = Unit {0}
IsPlainNode plain (node.Num n) = Unit {0}
IsPlainNode plain (node.Str t) = Unit {0}
IsPlainNode plain (node.App f t) = Unit {0}
IsPlainNode plain node.Yes = Unit {0}
IsPlainNode plain node.No = Unit {0}
IsPlainNode plain (node.Eq s t) = Unit {0}
IsPlainNode plain (node.Less s t) = Unit {0}
IsPlainNode plain (node.Has f s t) = Unit {0}
IsPlainNode plain (node.Flag f t) = Unit {0}
IsPlainNode plain (node.Present f t) = Unit {0}
IsPlainNode plain (node.Not a) = plain a
IsPlainNode plain (node.And a b) = plain a × plain b
IsPlainNode plain (node.Or a b) = plain a × plain b
IsPlainNode plain (node.Exists sort a) = ⊥
IsPlainNode plain (node.Forall sort a) = ⊥

module _ (nodes : List Node) where
  -- a formula without quantifiers
  pub record IsMatrix (id : ℕ) : Type 0 where
    pub formula : IsFormula nodes id
    pub plain : quantifiers (formula_of nodes id) ≡ 0

  -- the marked formulas are without quantifiers
  abbrev pub AreMatrices : List Bool → Type 0
  AreMatrices marks = (id : ℕ) → is_marked marks id ≡ true → IsFormula nodes id → quantifiers (formula_of nodes id) ≡ 0

  abbrev pub terms_below : ℕ → List Term
  terms_below id = atom_terms (formula_of nodes id)

  -- a formula that is pending has the term, and it and all that is walked over before it have numbers below this one
  abbrev pub IsAwaited : ℕ → Term → List ℕ → Type 0
  IsAwaited v t [] = ⊥
  IsAwaited v t (p ∷ ps) = IsAwaited v t ps ⊎ (AllByRecursion (λ q. q < v) (p ∷ ps) × Contains (terms_below p) t)

  -- What is pending is without quantifiers; before the terms that were found, its terms are all others. Of the formulas that the walk came to,
  -- each term was found, or is awaited from formulas of lower numbers.
  pub record IsMatrixWalk (total : List Term) (w : MatrixWalk) : Type 0 where
    pub pending : AllByRecursion IsMatrix w.pending.items
    pub terms : AllByRecursion (IsTerm nodes) (reverse w.terms.items)
    pub full : List Term
    pub whole : flat_map terms_below w.pending.items ++ full ≡ total
    pub thinned : Thins AnyTerm full (map (term_of nodes) (reverse w.terms.items))
    pub seen : (v : ℕ) → Contains w.seen.keys v → (t : Term) → Contains (terms_below v) t → Contains full t ⊎ IsAwaited v t w.pending.items

  -- the terms of a formula without quantifiers are added as parts, but for those that come again later in it
  pub record AddsMatrix (names : List (Option Name)) (id : ℕ) (old new : List Part) : Type 0 where
    pub kept : List Term
    pub more : List Part
    pub thinned : Thins AnyTerm (terms_below id) kept
    pub are : AreParts nodes (map (tree.atom_term (ground_names names)) kept) more
    pub whole : new ≡ old ++ more

-- the walk came to the number of a node before, and is as it was; or it went on from the node
pub data CameTo (id : ℕ) (n : Node) (old new : MatrixWalk) : Type 0 where
  Before : Contains old.seen.keys id → new.seen.keys ≡ old.seen.keys → new.pending.items ≡ old.pending.items → new.terms.items ≡ old.terms.items → CameTo id n old new
  Now : new.seen.keys ≡ old.seen.keys ++ id ∷ [] → new.pending.items ≡ old.pending.items ++ matrix_parts n → new.terms.items ≡ old.terms.items ++ matrix_terms n
      → CameTo id n old new
