-- What functions and Skolem variables give at terms.
use Rattle.std.specs.Prelude.{ℕ, zero, suc, Bool, true, not, ◌==◌, List, [], ◌∷◌, ◌++◌, map, Option, None, Some}
use Rattle.std.specs.List.{filter, flat_map, list_any}
use Rattle.form_formula.specs.declared.structure.Signature.{Signature}
use Rattle.form_terms.specs.GroundTerms.{GroundTerm, GroundTerms, constant, skolem, field, no_terms, sort_of, source_of, is_number}
use Rattle.form_terms.specs.Listing.{with_each}
use Rattle.ground_terms.specs.declared.node.TermNode.{TermNode}
use Rattle.ground_terms.specs.Nodes.{Extends}
use Rattle.ground_terms.specs.Standing.{terms_at, AreTermsAt}
use Rattle.ground_terms.specs.declared.part.Part.{Part}
use Rattle.ground_terms.specs.declared.part.Part.TheVariants.{Existential, Universal, Named, Dependent, Literal}

module _ (g : Signature) (terms : List GroundTerm) where
  -- those of a sort, if there is one
  abbrev pub of_sort_in : ℕ → List GroundTerm
  of_sort_in sort = filter (λ t. is_number (sort_of g t) sort) terms

  abbrev pub of_source_in : Option ℕ → List GroundTerm
  of_source_in None = []
  of_source_in (Some sort) = of_sort_in sort

  -- a function at each of the terms of its source
  abbrev pub fields_of : ℕ → List GroundTerm
  fields_of h = map (field h) (of_source_in (source_of g h))

  -- each choice of terms for each of some sorts
  abbrev pub choices : List ℕ → List GroundTerms
  choices [] = no_terms ∷ []
  choices (sort ∷ sorts) = with_each (of_sort_in sort) (choices sorts)

  -- the variable of an `exists` at each choice for the sorts of the `forall`s above it, if there are any
  abbrev pub skolems_above : ℕ → ℕ → List ℕ → List GroundTerm
  skolems_above number sort [] = []
  skolems_above number sort (s ∷ above) = map (skolem number sort) (choices (s ∷ above))

  abbrev pub code_skolems : Part → List GroundTerm
  code_skolems (Existential w) = skolems_above w.number w.sort w.above
  code_skolems (Universal s) = []
  code_skolems (Named id n) = []
  code_skolems (Dependent id) = []
  code_skolems (Literal id) = []

-- the outermost function of the term is none of these
abbrev pub is_plain_in : List ℕ → GroundTerm → Bool
is_plain_in functions (constant sort) = true
is_plain_in functions (skolem number sort ts) = true
is_plain_in functions (field h t) = not (list_any (λ k. k == h) functions)

-- the terms after so many rounds of applying, where these are the first and these of them stay
abbrev pub round_terms : Signature → List ℕ → List Part → List GroundTerm → List GroundTerm → ℕ → List GroundTerm
round_terms g functions parts plain first zero = first
round_terms g functions parts plain first (suc n) =
    plain
    ++ (flat_map (fields_of g (round_terms g functions parts plain first n)) functions
    ++ flat_map (code_skolems g (round_terms g functions parts plain first n)) parts)

-- these are the terms after so many rounds, and all nodes are there as before
pub record IsRound (g : Signature) (functions : List ℕ) (parts : List Part) (plain first : List ℕ) (old new : List TermNode) (n : ℕ) (current : List ℕ) : Type 0 where
  pub kept : Extends old new
  pub stand : AreTermsAt new current (round_terms g functions parts (terms_at old plain) (terms_at old first) n)
