-- Formulas whose parts are still to be found.
use Rattle.std.specs.Prelude.{◌≡◌, ◌⊎◌, ℕ, ◌+◌, ◌≤◌, List, [], ◌∷◌, ◌++◌, length, take, Option, None, Some, sum_by}
use Rattle.form_formula.specs.declared.node.Node.{Node}
use Rattle.form_formula.specs.declared.node.Node.TheVariants as node
use Rattle.form_formula.specs.Nodes.{IsFormula, formula_of, term_of}
use Rattle.form_terms.specs.Parts.{quantifiers, parts}
use Rattle.form_terms.specs.Parts as tree
use Rattle.form_strata.specs.Visits.{steps_of}
use Rattle.ground_terms.specs.declared.part.Name.{Name}
use Rattle.ground_terms.specs.declared.part.Part.{Part}
use Rattle.ground_terms.specs.declared.walk.Pending.{Pending}
use Rattle.ground_terms.specs.declared.walk.Walk.{Walk}
use Rattle.ground_terms.specs.Matrices.{AddsMatrix, IsMatrix}
use Rattle.ground_terms.specs.Parts.{ground_names, AreParts, AreThinned, IsTermPart}

-- the name of the variable of an `exists` below these `forall`s
abbrev pub name_below : ℕ → ℕ → List ℕ → Option Name
name_below number sort [] = Some (record { number = number; sort = sort })
name_below number sort (s ∷ above) = None

-- one more part, which is that of a term
abbrev pub IsOnePart : List Node → List (Option Name) → ℕ → List Part → List Part → Type 0
IsOnePart nodes names id old new = (part : Part) × IsTermPart nodes names id part × (new ≡ old ++ part ∷ [])

-- the parts of a formula that is pending, whose first quantifier has this number
abbrev pub pending_parts : List Node → List (Option Name) → List ℕ → ℕ → Pending → List tree.Part
pending_parts nodes names above number p = parts number (ground_names (take p.quantifiers names)) (take p.universals above) (formula_of nodes p.id)

-- how many quantifiers all have that are pending
abbrev pub quantifiers_left : List Node → List Pending → ℕ
quantifiers_left nodes pending = sum_by (λ p. quantifiers (formula_of nodes p.id)) pending

-- the parts of all that are pending, from the last one on
abbrev pub all_parts : List Node → List (Option Name) → List ℕ → ℕ → List Pending → List tree.Part
all_parts nodes names above number [] = []
all_parts nodes names above number (p ∷ pending) =
    all_parts nodes names above number pending ++ pending_parts nodes names above (number + quantifiers_left nodes pending) p

-- no more than so many quantifiers and `forall`s stand above each
abbrev pub AreWithin : ℕ → ℕ → List Pending → Type 0
AreWithin quantifiers universals [] = Unit {0}
AreWithin quantifiers universals (p ∷ pending) = (p.quantifiers ≤ quantifiers) × (p.universals ≤ universals) × AreWithin quantifiers universals pending

-- and no fewer
abbrev pub AreOutside : ℕ → ℕ → List Pending → Type 0
AreOutside quantifiers universals [] = Unit {0}
AreOutside quantifiers universals (p ∷ pending) = (quantifiers ≤ p.quantifiers) × (universals ≤ p.universals) × AreOutside quantifiers universals pending

-- each is a formula, and stands below no more quantifiers than the later ones
abbrev pub ArePending : List Node → List Pending → Type 0
ArePending nodes [] = Unit {0}
ArePending nodes (p ∷ pending) = IsFormula nodes p.id × AreOutside p.quantifiers p.universals pending × ArePending nodes pending

-- how many steps all take that are pending
abbrev pub steps_left : List Node → List Pending → ℕ
steps_left nodes pending = sum_by (λ p. steps_of (formula_of nodes p.id)) pending

-- what is pending can be walked over, and there are these parts in all, those found included
pub record IsWalkOf (nodes : List Node) (total : List tree.Part) (w : Walk) : Type 0 where
  pub sound : ArePending nodes w.pending.items
  pub within : AreWithin (length w.names.items) (length w.above.items) w.pending.items
  pub found : List tree.Part
  pub shown : AreThinned nodes found w.parts.items
  pub whole : found ++ all_parts nodes w.names.items w.above.items w.number w.pending.items ≡ total

-- the parts of a node that is pending, which stands below all quantifiers that are known, the last one first to be walked over
abbrev pub pending_of : Pending → List (Option Name) → List ℕ → Node → List Pending
pending_of p names above (node.Bound sort depth) = []
pending_of p names above (node.Num n) = []
pending_of p names above (node.Str t) = []
pending_of p names above (node.App f t) = []
pending_of p names above node.Yes = []
pending_of p names above node.No = []
pending_of p names above (node.Eq s t) = []
pending_of p names above (node.Less s t) = []
pending_of p names above (node.Has f s t) = []
pending_of p names above (node.Flag f t) = []
pending_of p names above (node.Present f t) = []
pending_of p names above (node.Not a) = record p { id = a } ∷ []
pending_of p names above (node.And a b) = record p { id = b } ∷ record p { id = a } ∷ []
pending_of p names above (node.Or a b) = record p { id = b } ∷ record p { id = a } ∷ []
pending_of p names above (node.Exists sort a) = record { id = a; quantifiers = length names + 1; universals = length above } ∷ []
pending_of p names above (node.Forall sort a) = record { id = a; quantifiers = length names + 1; universals = length above + 1 } ∷ []

-- the name of the variable of the node, if it has a variable
abbrev pub names_of : ℕ → List ℕ → Node → List (Option Name)
names_of number above (node.Bound sort depth) = []
names_of number above (node.Num n) = []
names_of number above (node.Str t) = []
names_of number above (node.App f t) = []
names_of number above node.Yes = []
names_of number above node.No = []
names_of number above (node.Eq s t) = []
names_of number above (node.Less s t) = []
names_of number above (node.Has f s t) = []
names_of number above (node.Flag f t) = []
names_of number above (node.Present f t) = []
names_of number above (node.Not a) = []
names_of number above (node.And a b) = []
names_of number above (node.Or a b) = []
names_of number above (node.Exists sort a) = name_below number sort above ∷ []
names_of number above (node.Forall sort a) = None ∷ []

-- the sort of the node, if it is a `forall`
abbrev pub universal_of : Node → List ℕ
universal_of (node.Bound sort depth) = []
universal_of (node.Num n) = []
universal_of (node.Str t) = []
universal_of (node.App f t) = []
universal_of node.Yes = []
universal_of node.No = []
universal_of (node.Eq s t) = []
universal_of (node.Less s t) = []
universal_of (node.Has f s t) = []
universal_of (node.Flag f t) = []
universal_of (node.Present f t) = []
universal_of (node.Not a) = []
universal_of (node.And a b) = []
universal_of (node.Or a b) = []
universal_of (node.Exists sort a) = []
universal_of (node.Forall sort a) = sort ∷ []

-- the parts of the node by itself
abbrev pub own_parts : List Node → List (Option Name) → List ℕ → ℕ → Node → List tree.Part
own_parts nodes names above number (node.Bound sort depth) = []
own_parts nodes names above number (node.Num n) = []
own_parts nodes names above number (node.Str t) = []
own_parts nodes names above number (node.App f t) = []
own_parts nodes names above number node.Yes = []
own_parts nodes names above number node.No = []
own_parts nodes names above number (node.Eq s t) = tree.atom_term (ground_names names) (term_of nodes s) ∷ tree.atom_term (ground_names names) (term_of nodes t) ∷ []
own_parts nodes names above number (node.Less s t) = tree.atom_term (ground_names names) (term_of nodes s) ∷ tree.atom_term (ground_names names) (term_of nodes t) ∷ []
own_parts nodes names above number (node.Has f s t) = tree.atom_term (ground_names names) (term_of nodes s) ∷ tree.atom_term (ground_names names) (term_of nodes t) ∷ []
own_parts nodes names above number (node.Flag f t) = tree.atom_term (ground_names names) (term_of nodes t) ∷ []
own_parts nodes names above number (node.Present f t) = tree.atom_term (ground_names names) (term_of nodes t) ∷ []
own_parts nodes names above number (node.Not a) = []
own_parts nodes names above number (node.And a b) = []
own_parts nodes names above number (node.Or a b) = []
own_parts nodes names above number (node.Exists sort a) = tree.existential (record { number = number; sort = sort; above = above }) ∷ []
own_parts nodes names above number (node.Forall sort a) = tree.universal sort ∷ []

-- and whether it is a quantifier, as a number
abbrev pub own_quantifiers : Node → ℕ
own_quantifiers (node.Bound sort depth) = 0
own_quantifiers (node.Num n) = 0
own_quantifiers (node.Str t) = 0
own_quantifiers (node.App f t) = 0
own_quantifiers node.Yes = 0
own_quantifiers node.No = 0
own_quantifiers (node.Eq s t) = 0
own_quantifiers (node.Less s t) = 0
own_quantifiers (node.Has f s t) = 0
own_quantifiers (node.Flag f t) = 0
own_quantifiers (node.Present f t) = 0
own_quantifiers (node.Not a) = 0
own_quantifiers (node.And a b) = 0
own_quantifiers (node.Or a b) = 0
own_quantifiers (node.Exists sort a) = 1
own_quantifiers (node.Forall sort a) = 1

-- the code's parts of the node are added
abbrev pub AreAdded : List Node → List tree.Part → List Part → List Part → Type 0
AreAdded nodes own old new = (more : List Part) × AreParts nodes own more × (new ≡ old ++ more)

-- the walk went on from a node that was pending, below all quantifiers that are known
pub record IsExpansion (nodes : List Node) (p : Pending) (n : Node) (old new : Walk) : Type 0 where
  pub pending : new.pending.items ≡ old.pending.items ++ pending_of p old.names.items old.above.items n
  pub names : new.names.items ≡ old.names.items ++ names_of old.number old.above.items n
  pub above : new.above.items ≡ old.above.items ++ universal_of n
  pub number : new.number ≡ old.number + own_quantifiers n
  pub parts : AreAdded nodes (own_parts nodes old.names.items old.above.items old.number n) old.parts.items new.parts.items

-- or it found the parts of one without quantifiers
pub record IsMatrixStep (nodes : List Node) (p : Pending) (old new : Walk) : Type 0 where
  pub matrix : IsMatrix nodes p.id
  pub pending : new.pending.items ≡ old.pending.items
  pub names : new.names.items ≡ old.names.items
  pub above : new.above.items ≡ old.above.items
  pub number : new.number ≡ old.number
  pub parts : AddsMatrix nodes old.names.items p.id old.parts.items new.parts.items

abbrev pub IsStep : List Node → Pending → Node → Walk → Walk → Type 0
IsStep nodes p n old new = IsExpansion nodes p n old new ⊎ IsMatrixStep nodes p old new
