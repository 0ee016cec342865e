-- Numbers of ground terms.
use Rattle.std.specs.Prelude.{◌≡◌, ℕ, List, [], ◌∷◌, ◌++◌, map}
use Rattle.form_terms.specs.GroundTerms.{GroundTerm, GroundTerms}
use Rattle.ground_terms.specs.declared.node.TermNode.{TermNode}
use Rattle.ground_terms.specs.Nodes.{IsOne, IsList, term_of, list_of, Extends}

module _ (nodes : List TermNode) where
  -- the terms of some numbers
  abbrev pub terms_at : List ℕ → List GroundTerm
  terms_at ids = map (term_of nodes) ids

  abbrev pub lists_at : List ℕ → List GroundTerms
  lists_at ids = map (list_of nodes) ids

  -- the numbers are those of terms, of lists
  abbrev pub AreOnes : List ℕ → Type 0
  AreOnes [] = Unit {0}
  AreOnes (id ∷ ids) = IsOne nodes id × AreOnes ids

  abbrev pub AreLists : List ℕ → Type 0
  AreLists [] = Unit {0}
  AreLists (id ∷ ids) = IsList nodes id × AreLists ids

-- the numbers stand for the terms
pub record AreTermsAt (nodes : List TermNode) (ids : List ℕ) (terms : List GroundTerm) : Type 0 where
  pub ones : AreOnes nodes ids
  pub are : terms_at nodes ids ≡ terms

pub record AreListsAt (nodes : List TermNode) (ids : List ℕ) (lists : List GroundTerms) : Type 0 where
  pub all_lists : AreLists nodes ids
  pub are : lists_at nodes ids ≡ lists

-- numbers of these terms were put at the end of a list, and all nodes are there as before
pub record AreListed (terms : List GroundTerm) (old new : List TermNode) (before after : List ℕ) : Type 0 where
  pub kept : Extends old new
  pub ids : List ℕ
  pub stand : AreTermsAt new ids terms
  pub whole : after ≡ before ++ ids

-- numbers of these lists of terms
pub record AreListsListed (lists : List GroundTerms) (old new : List TermNode) (before after : List ℕ) : Type 0 where
  pub kept : Extends old new
  pub ids : List ℕ
  pub stand : AreListsAt new ids lists
  pub whole : after ≡ before ++ ids
