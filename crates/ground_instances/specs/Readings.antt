-- The reading of a formula over ground terms, as a test.
use Rattle.std.specs.Prelude.{ℕ, ◌+◌, Bool, true, false, not, ◌&&◌, ◌||◌, List, [], ◌∷◌, ◌++◌}
use Rattle.std.specs.List.{list_all, filter}
use Rattle.form_formula.specs.declared.structure.Signature.{Signature}
use Rattle.form_formula.specs.Trees.{Formula, yes, no, equal, less, has, flag, present, negation, both, either, exists, forall}
use Rattle.form_terms.specs.GroundTerms.{GroundTerm, GroundTerms, skolem, and_last, sort_of, is_number}
use Rattle.form_terms.specs.Parts.{quantifiers}
use Rattle.ground_instances.specs.GroundAtoms.{GroundAtom, holds_at}

-- the terms of a sort among these
abbrev pub of_sort : Signature → List GroundTerm → ℕ → List GroundTerm
of_sort g terms sort = filter (λ t. is_number (sort_of g t) sort) terms

module _ (g : Signature) (terms : List GroundTerm) (is_there : GroundTerm → Bool) (holds : GroundAtom → Bool) where
  abbrev pub reading : ℕ → List GroundTerm → GroundTerms → Formula → Bool
  reading number env args yes = true
  reading number env args no = false
  reading number env args (equal t u) = holds_at holds env (equal t u)
  reading number env args (less t u) = holds_at holds env (less t u)
  reading number env args (has r t u) = holds_at holds env (has r t u)
  reading number env args (flag h t) = holds_at holds env (flag h t)
  reading number env args (present h t) = holds_at holds env (present h t)
  reading number env args (negation a) = not (holds_at holds env a)
  reading number env args (both a b) = reading number env args a && reading (number + quantifiers a) env args b
  reading number env args (either a b) = reading number env args a || reading (number + quantifiers a) env args b
  reading number env args (exists sort a) =
      is_there (skolem number sort args) && reading (number + 1) (env ++ skolem number sort args ∷ []) args a
  reading number env args (forall sort a) =
      list_all (λ t. not (is_there t) || reading (number + 1) (env ++ t ∷ []) (and_last args t) a) (of_sort g terms sort)
