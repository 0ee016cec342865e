-- The terms over which a formula is instantiated, one after another.
use Rattle.std.specs.Prelude.{ℕ, zero, suc, Bool, true, false, not, ◌&&◌, List, [], ◌∷◌, ◌++◌, cond, map, Option, None, Some, Contains, ◌==◌}
use Rattle.std.specs.List.{list_any, filter, flat_map, range_with_len}
use Rattle.std.specs.Option.{option_to_list}
use Rattle.form_formula.specs.declared.structure.Signature.{Signature}
use Rattle.form_formula.specs.Trees.{Formula}
use Rattle.form_terms.specs.GroundTerms.{GroundTerm, GroundTerms, constant, skolem, field, no_terms, term_and, source_of, sort_of, is_number}
use Rattle.form_terms.specs.Parts.{Variable, name_of}
use Rattle.form_terms.specs.Universe.{variables_of, terms_of, functions_of, is_needed}

abbrev mutual
  -- whether two terms are the same
  pub is_same_term : GroundTerm → GroundTerm → Bool
  is_same_term (constant sort) (constant sort') = sort == sort'
  is_same_term (constant sort) (skolem n sort' ts) = false
  is_same_term (constant sort) (field h t) = false
  is_same_term (skolem n sort ts) (constant sort') = false
  is_same_term (skolem n sort ts) (skolem n' sort' ts') = (n == n') && ((sort == sort') && are_same_terms ts ts')
  is_same_term (skolem n sort ts) (field h t) = false
  is_same_term (field h t) (constant sort') = false
  is_same_term (field h t) (skolem n sort' ts) = false
  is_same_term (field h t) (field h' t') = (h == h') && is_same_term t t'

  pub are_same_terms : GroundTerms → GroundTerms → Bool
  are_same_terms no_terms no_terms = true
  are_same_terms no_terms (term_and t ts) = false
  are_same_terms (term_and t ts) no_terms = false
  are_same_terms (term_and t ts) (term_and u us) = is_same_term t u && are_same_terms ts us

-- each element once, where it stands last
abbrev pub unique : {A : Type 0} → (A → A → Bool) → List A → List A
unique same [] = []
unique same (x ∷ xs) = cond (list_any (same x) xs) (unique same xs) (x ∷ unique same xs)

-- no element stands twice
abbrev pub HasNoRepeats : {A : Type 0} → List A → Type 0
HasNoRepeats [] = Unit {0}
HasNoRepeats (x ∷ xs) = (Contains xs x → ⊥) × HasNoRepeats xs

-- the list has just the elements of the set, each once
pub record Lists {A : Type 0} (P : A → Type 0) (xs : List A) : Type 0 where
  pub all : (x : A) → P x → Contains xs x
  pub only : (x : A) → Contains xs x → P x
  pub once : HasNoRepeats xs

-- each choice of a first element from the list and others from the choices
abbrev pub with_each : List GroundTerm → List GroundTerms → List GroundTerms
with_each firsts rests = flat_map (λ t. map (term_and t) rests) firsts

module _ (g : Signature) (f : Formula) where
  abbrev pub of_sort : ℕ → List GroundTerm → List GroundTerm
  of_sort sort ts = filter (λ t. is_number (sort_of g t) sort) ts

  -- a variable bound by an `exists` below no `forall`
  abbrev pub own_names : List GroundTerm
  own_names = flat_map (λ v. option_to_list (name_of v.number v.sort v.above)) (variables_of g f)

  -- the terms before functions and Skolem variables are applied: a constant for each needed sort, the variables that are not
  -- dependent, and the record terms of the formula that hold no dependent variable
  abbrev pub first_terms : List GroundTerm
  first_terms = map constant (filter (is_needed g f) (range_with_len 0 g.sorts)) ++ unique is_same_term (own_names ++ terms_of g f)

  -- the functions that are applied
  abbrev pub functions : List ℕ
  functions = unique (λ h k. h == k) (functions_of g f)

  -- the outermost function of the term is none of these
  abbrev pub is_plain : GroundTerm → Bool
  is_plain (constant sort) = true
  is_plain (skolem n sort ts) = true
  is_plain (field h t) = not (list_any (λ k. k == h) functions)

  -- the variables bound by an `exists` below a `forall`
  abbrev pub is_skolem : List ℕ → Bool
  is_skolem [] = false
  is_skolem (sort ∷ above) = true

  abbrev pub skolem_variables : List Variable
  skolem_variables = filter (λ v. is_skolem v.above) (variables_of g f)

  module _ (terms : List GroundTerm) where
    -- a choice of terms for each of the sorts
    abbrev pub arguments : List ℕ → List GroundTerms
    arguments [] = no_terms ∷ []
    arguments (sort ∷ sorts) = with_each (of_sort sort terms) (arguments sorts)

    -- the terms of a sort, if there is one
    abbrev pub of_source : Option ℕ → List GroundTerm
    of_source None = []
    of_source (Some sort) = of_sort sort terms

    -- each function at each term of its source, and each Skolem variable at each choice of arguments
    abbrev pub field_terms : List GroundTerm
    field_terms = flat_map (λ h. map (field h) (of_source (source_of g h))) functions

    abbrev pub skolem_terms : List GroundTerm
    skolem_terms = flat_map (λ v. map (skolem v.number v.sort) (arguments v.above)) skolem_variables

  -- the terms that arise within so many rounds of applying
  abbrev pub terms_after : ℕ → List GroundTerm
  terms_after zero = first_terms
  terms_after (suc n) = filter is_plain first_terms ++ (field_terms (terms_after n) ++ skolem_terms (terms_after n))

  -- in a stratified formula over n sorts no more arise after n rounds
  abbrev pub herbrand_terms : List GroundTerm
  herbrand_terms = terms_after g.sorts

  abbrev pub shallow_terms : List GroundTerm
  shallow_terms = terms_after 2
