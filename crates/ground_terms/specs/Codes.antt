-- What the parts of a formula have, in the code's form.
use Rattle.std.specs.Prelude.{◌≡◌, ℕ, ◌<◌, Bool, false, ◌||◌, ◌==◌, List, [], ◌∷◌, ◌++◌, length, slice_index_or}
use Rattle.std.specs.List.{list_any}
use Rattle.std.specs.Option.{option_to_list}
use Rattle.form_formula.specs.declared.node.Node.{Node}
use Rattle.form_formula.specs.declared.structure.Signature.{Signature}
use Rattle.form_formula.specs.Trees.{Term, bound, num, str, app}
use Rattle.form_formula.specs.Nodes as formula
use Rattle.form_terms.specs.GroundTerms.{GroundTerm, field}
use Rattle.form_terms.specs.Parts.{Variable, sorts_in, if_element, name_of}
use Rattle.ground_terms.specs.declared.node.TermNode.{TermNode}
use Rattle.ground_terms.specs.Nodes.{IsOne, term_of}
use Rattle.ground_terms.specs.Standing.{AreListed}
use Rattle.ground_terms.specs.declared.part.Part.{Part}
use Rattle.ground_terms.specs.declared.part.Part.TheVariants.{Existential, Universal, Named, Dependent, Literal}
use Rattle.ground_terms.specs.Parts.{ground_name}

-- whether a sort is marked
abbrev pub is_marked : List Bool → ℕ → Bool
is_marked marks sort = slice_index_or marks sort false

-- these sorts were marked, and no others
pub record AreMarked (sorts : List ℕ) (old new : List Bool) : Type 0 where
  pub size : length new ≡ length old
  pub marked : (sort : ℕ) → sort < length old → is_marked new sort ≡ (is_marked old sort || list_any (λ s. s == sort) sorts)

-- the functions of a term, the outermost first
abbrev pub functions_in : Term → List ℕ
functions_in (bound sort depth) = []
functions_in (num n) = []
functions_in (str t) = []
functions_in (app f t) = f ∷ functions_in t

-- those that give elements
abbrev pub element_functions : Signature → Term → List ℕ
element_functions g (bound sort depth) = []
element_functions g (num n) = []
element_functions g (str t) = []
element_functions g (app f t) = if_element g f (f ∷ []) ++ element_functions g t

module _ (g : Signature) where
  -- the functions of a list at a term, the outermost first
  abbrev pub applied_to : GroundTerm → List ℕ → GroundTerm
  applied_to t [] = t
  applied_to t (f ∷ fs) = field f (applied_to t fs)

  -- the record terms among this and its parts, the outermost first
  abbrev pub record_parts : GroundTerm → List ℕ → List GroundTerm
  record_parts t [] = t ∷ []
  record_parts t (f ∷ fs) = if_element g f (applied_to t (f ∷ fs) ∷ []) ++ record_parts t fs

module _ (g : Signature) (nodes : List Node) where
  abbrev pub code_variables : Part → List Variable
  code_variables (Existential w) = record { number = w.number; sort = w.sort; above = w.above } ∷ []
  code_variables (Universal s) = []
  code_variables (Named id n) = []
  code_variables (Dependent id) = []
  code_variables (Literal id) = []

  abbrev pub code_terms : Part → List GroundTerm
  code_terms (Existential w) = []
  code_terms (Universal s) = []
  code_terms (Named id n) = record_parts g (ground_name n) (functions_in (formula.term_of nodes id))
  code_terms (Dependent id) = []
  code_terms (Literal id) = []

  abbrev pub code_functions : Part → List ℕ
  code_functions (Existential w) = []
  code_functions (Universal s) = []
  code_functions (Named id n) = []
  code_functions (Dependent id) = element_functions g (formula.term_of nodes id)
  code_functions (Literal id) = []

  abbrev pub code_sorts : Part → List ℕ
  code_sorts (Existential w) = w.sort ∷ []
  code_sorts (Universal s) = s ∷ []
  code_sorts (Named id n) = sorts_in g (formula.term_of nodes id)
  code_sorts (Dependent id) = sorts_in g (formula.term_of nodes id)
  code_sorts (Literal id) = sorts_in g (formula.term_of nodes id)

-- the ground term of the variable of an `exists`, if it has one
abbrev pub code_names : Part → List GroundTerm
code_names (Existential w) = option_to_list (name_of w.number w.sort w.above)
code_names (Universal s) = []
code_names (Named id n) = []
code_names (Dependent id) = []
code_names (Literal id) = []

-- the record terms among a term and its parts, the innermost first
abbrev pub inner_parts : Signature → GroundTerm → List ℕ → List GroundTerm
inner_parts g t [] = t ∷ []
inner_parts g t (f ∷ fs) = inner_parts g t fs ++ if_element g f (applied_to g t (f ∷ fs) ∷ [])

-- of the functions of a term, the outermost are left to apply
pub record IsClimb (g : Signature) (root : GroundTerm) (functions left : List ℕ) (old new : List TermNode) (at : ℕ) (found : List ℕ) : Type 0 where
  pub done : List ℕ
  pub whole : left ++ done ≡ functions
  pub one : IsOne new at
  pub is : term_of new at ≡ applied_to g root done
  pub listed : AreListed (inner_parts g root done) old new [] found
