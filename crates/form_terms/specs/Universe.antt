-- The terms over which a formula is instantiated.
use Rattle.std.specs.Prelude.{◌≡◌, ℕ, zero, suc, Bool, true, false, not, ◌||◌, ◌&&◌, ◌⊎◌, List, [], ◌∷◌, Some, Contains, IsTrue, ◌==◌}
use Rattle.std.specs.List.{list_any, flat_map}
use Rattle.form_formula.specs.declared.structure.FunSig.{FunSig}
use Rattle.form_formula.specs.declared.structure.Signature.{Signature}
use Rattle.form_formula.specs.declared.structure.Range.TheVariants.{Rec}
use Rattle.form_formula.specs.Over.{IsFunction}
use Rattle.form_formula.specs.Trees.{Formula}
use Rattle.form_terms.specs.GroundTerms.{GroundTerm, GroundTerms, constant, skolem, field, no_terms, term_and, record_sort, source_of, sort_of, is_number}
use Rattle.form_terms.specs.Parts.{Variable, Part, existential, universal, atom_term, parts_of, record_terms, applied_in, sorts_in}

-- what each part has of these things
abbrev pub variables_in : Part → List Variable
variables_in (existential v) = v ∷ []
variables_in (universal sort) = []
variables_in (atom_term names t) = []

abbrev pub terms_in : Signature → Part → List GroundTerm
terms_in g (existential v) = []
terms_in g (universal sort) = []
terms_in g (atom_term names t) = record_terms g names t

abbrev pub functions_in : Signature → Part → List ℕ
functions_in g (existential v) = []
functions_in g (universal sort) = []
functions_in g (atom_term names t) = applied_in g names t

abbrev pub sorts_of_part : Signature → Part → List ℕ
sorts_of_part g (existential v) = v.sort ∷ []
sorts_of_part g (universal sort) = sort ∷ []
sorts_of_part g (atom_term names t) = sorts_in g t

-- whether a function is total and gives elements of a sort
abbrev pub leads_to : ℕ → FunSig → Bool
leads_to sort sig = not sig.partial && is_number (record_sort sig.to) sort

-- the sorts of the terms, each the source of a function or the sort of an argument
abbrev pub HaveSorts : Signature → GroundTerms → List ℕ → Type 0
HaveSorts g no_terms [] = Unit {0}
HaveSorts g no_terms (s ∷ sorts) = ⊥
HaveSorts g (term_and t ts) [] = ⊥
HaveSorts g (term_and t ts) (s ∷ sorts) = (sort_of g t ≡ Some s) × HaveSorts g ts sorts

-- the set has each of the terms
abbrev pub HasEach : (GroundTerm → Type 0) → GroundTerms → Type 0
HasEach P no_terms = Unit {0}
HasEach P (term_and t ts) = P t × HasEach P ts

module _ (g : Signature) (f : Formula) where
  -- the variables bound by `exists`
  abbrev pub variables_of : List Variable
  variables_of = flat_map variables_in (parts_of f)

  -- the record terms that hold no dependent variable
  abbrev pub terms_of : List GroundTerm
  terms_of = flat_map (terms_in g) (parts_of f)

  -- the functions that give elements and are applied to terms with a dependent variable
  abbrev pub functions_of : List ℕ
  functions_of = flat_map (functions_in g) (parts_of f)

  -- the sorts of the variables and the terms
  abbrev pub sorts_of : List ℕ
  sorts_of = flat_map (sorts_of_part g) (parts_of f)

  -- whether a sort is needed: one of these, or reached from one by so many total functions
  abbrev pub is_needed_after : ℕ → ℕ → Bool
  is_needed_after zero sort = list_any (λ s. s == sort) sorts_of
  is_needed_after (suc n) sort = is_needed_after n sort || list_any (λ sig. leads_to sort sig && is_needed_after n sig.from) g.funs

  -- in a signature with n sorts, n functions lead to each sort that can be reached
  abbrev pub is_needed : ℕ → Bool
  is_needed sort = is_needed_after g.sorts sort

  -- the set has the sorts of the formula, and whatever total functions lead to from its own
  pub record HasNeeded (P : ℕ → Bool) : Type 0 where
    pub named : (sort : ℕ) → Contains sorts_of sort → P sort ≡ true
    pub followed : (h : ℕ) (sig : FunSig) (sort : ℕ) → IsFunction g h sig → sig.partial ≡ false → sig.to ≡ Rec sort → P sig.from ≡ true → P sort ≡ true

  -- the terms before functions and Skolem variables are applied
  abbrev pub IsFirstTerm : GroundTerm → Type 0
  IsFirstTerm (constant sort) = IsTrue (is_needed sort)
  IsFirstTerm (skolem number sort ts) = (ts ≡ no_terms) × Contains variables_of (record { number = number; sort = sort; above = [] })
  IsFirstTerm (field h t) = Contains terms_of (field h t)

  -- the term is a function of the formula, or a Skolem variable, at terms of the set
  abbrev pub IsAppliedTo : (GroundTerm → Type 0) → GroundTerm → Type 0
  IsAppliedTo P (constant sort) = ⊥
  IsAppliedTo P (skolem number sort ts) =
      (above : List ℕ) × Contains variables_of (record { number = number; sort = sort; above = above }) × HaveSorts g ts above × HasEach P ts
  IsAppliedTo P (field h t) = Contains functions_of h × (source_of g h ≡ sort_of g t) × P t

  -- the terms that so many rounds of applying add to the first
  abbrev pub ArisesWithin : ℕ → GroundTerm → Type 0
  ArisesWithin zero t = IsFirstTerm t
  ArisesWithin (suc n) t = IsFirstTerm t ⊎ IsAppliedTo (ArisesWithin n) t

  -- the terms over which a formula is instantiated: all that arise
  abbrev pub IsHerbrandTerm : GroundTerm → Type 0
  IsHerbrandTerm t = (n : ℕ) × ArisesWithin n t

  -- and for a formula that is not stratified those that arise in two rounds
  abbrev pub IsShallowTerm : GroundTerm → Type 0
  IsShallowTerm t = ArisesWithin 2 t

  -- the set holds the first terms, and whatever arises from its own
  pub record IsClosedSet (P : GroundTerm → Type 0) : Type 0 where
    pub first : (t : GroundTerm) → IsFirstTerm t → P t
    pub applied : (t : GroundTerm) → IsAppliedTo P t → P t
