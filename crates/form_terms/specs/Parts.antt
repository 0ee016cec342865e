-- The quantifiers and the terms of a formula, each with what stands above it.
use Rattle.std.specs.Prelude.{ℕ, ◌+◌, Bool, false, List, [], ◌∷◌, ◌++◌, cond, Option, None, Some, is_none, slice_index_or}
use Rattle.std.specs.Option.{option_map, option_to_list}
use Rattle.form_formula.specs.declared.structure.Signature.{Signature}
use Rattle.form_formula.specs.Trees.{Term, Formula, bound, num, str, app, yes, no, equal, less, has, flag, present, negation, both, either, exists, forall}
use Rattle.form_terms.specs.GroundTerms.{GroundTerm, no_terms, skolem, field, target_of}

-- the variable of an `exists`: its number among the quantifiers of the formula in reading order, its sort, and the sorts of the
-- `forall`s above it, the outermost first
pub record Variable : Type 0 where
  pub number : ℕ
  pub sort : ℕ
  pub above : List ℕ

-- how many quantifiers a formula has as a tree
abbrev pub quantifiers : Formula → ℕ
quantifiers yes = 0
quantifiers no = 0
quantifiers (equal t u) = 0
quantifiers (less t u) = 0
quantifiers (has r t u) = 0
quantifiers (flag f t) = 0
quantifiers (present f t) = 0
quantifiers (negation a) = quantifiers a
quantifiers (both a b) = quantifiers a + quantifiers b
quantifiers (either a b) = quantifiers a + quantifiers b
quantifiers (exists sort a) = 1 + quantifiers a
quantifiers (forall sort a) = 1 + quantifiers a

-- an `exists`; a `forall` of a sort; a term of an atom, where each quantifier above has the ground term of its variable, or nothing
-- if the variable is dependent: bound by a `forall`, or by an `exists` below one
pub data Part : Type 0 where
  existential : Variable → Part
  universal : (sort : ℕ) → Part
  atom_term : List (Option GroundTerm) → Term → Part

-- the ground term of the variable of an `exists` with these sorts of `forall`s above it, unless it is dependent
abbrev pub name_of : ℕ → ℕ → List ℕ → Option GroundTerm
name_of number sort [] = Some (skolem number sort no_terms)
name_of number sort (s ∷ above) = None

-- the parts of a formula whose first quantifier has this number
abbrev pub parts : ℕ → List (Option GroundTerm) → List ℕ → Formula → List Part
parts number names above yes = []
parts number names above no = []
parts number names above (equal t u) = atom_term names t ∷ atom_term names u ∷ []
parts number names above (less t u) = atom_term names t ∷ atom_term names u ∷ []
parts number names above (has r t u) = atom_term names t ∷ atom_term names u ∷ []
parts number names above (flag f t) = atom_term names t ∷ []
parts number names above (present f t) = atom_term names t ∷ []
parts number names above (negation a) = parts number names above a
parts number names above (both a b) = parts number names above a ++ parts (number + quantifiers a) names above b
parts number names above (either a b) = parts number names above a ++ parts (number + quantifiers a) names above b
parts number names above (exists sort a) =
    existential (record { number = number; sort = sort; above = above }) ∷ parts (number + 1) (names ++ name_of number sort above ∷ []) above a
parts number names above (forall sort a) = universal sort ∷ parts (number + 1) (names ++ None ∷ []) (above ++ sort ∷ []) a

-- the parts of a whole formula
abbrev pub parts_of : Formula → List Part
parts_of f = parts 0 [] [] f

module _ (names : List (Option GroundTerm)) where
  -- the ground term that a term is, if it holds no dependent variable
  abbrev pub ground_term : Term → Option GroundTerm
  ground_term (bound sort depth) = slice_index_or names depth None
  ground_term (num n) = None
  ground_term (str t) = None
  ground_term (app f t) = option_map (field f) (ground_term t)

  -- whether a term holds a dependent variable
  abbrev pub is_dependent : Term → Bool
  is_dependent (bound sort depth) = is_none (slice_index_or names depth None)
  is_dependent (num n) = false
  is_dependent (str t) = false
  is_dependent (app f t) = is_dependent t

-- a value for each function that gives elements
abbrev pub if_element : {A : Type 0} → Signature → ℕ → List A → List A
if_element g f xs = cond (is_none (target_of g f)) [] xs

-- the record terms among a term and its parts that hold no dependent variable
abbrev pub record_terms : Signature → List (Option GroundTerm) → Term → List GroundTerm
record_terms g names (bound sort depth) = option_to_list (ground_term names (bound sort depth))
record_terms g names (num n) = []
record_terms g names (str t) = []
record_terms g names (app f t) = if_element g f (option_to_list (ground_term names (app f t))) ++ record_terms g names t

-- the functions that give elements and are applied to a term with a dependent variable
abbrev pub applied_in : Signature → List (Option GroundTerm) → Term → List ℕ
applied_in g names (bound sort depth) = []
applied_in g names (num n) = []
applied_in g names (str t) = []
applied_in g names (app f t) = if_element g f (cond (is_dependent names t) (f ∷ []) []) ++ applied_in g names t

-- the sorts of the record terms among a term and its parts
abbrev pub sorts_in : Signature → Term → List ℕ
sorts_in g (bound sort depth) = sort ∷ []
sorts_in g (num n) = []
sorts_in g (str t) = []
sorts_in g (app f t) = option_to_list (target_of g f) ++ sorts_in g t
