-- The parts of a formula, in the code's form.
use Rattle.std.specs.Prelude.{◌≡◌, ◌⊎◌, ℕ, List, [], ◌∷◌, Contains, map, Option, None, Some, slice_index_or}
use Rattle.std.specs.Option.{option_map}
use Rattle.form_formula.specs.declared.node.Node.{Node}
use Rattle.form_formula.specs.Trees.{Term, bound, num, str, app}
use Rattle.form_formula.specs.Nodes.{IsTerm, term_of}
use Rattle.form_terms.specs.GroundTerms.{GroundTerm, skolem, no_terms}
use Rattle.form_terms.specs.Parts.{quantifiers, parts, name_of}
use Rattle.form_terms.specs.Parts as tree
use Rattle.ground_terms.specs.declared.part.Name.{Name}
use Rattle.ground_terms.specs.declared.part.Part.{Part}
use Rattle.ground_terms.specs.declared.part.Part.TheVariants.{Existential, Universal, Named, Dependent, Literal}

-- the ground term that has the name
abbrev pub ground_name : Name → GroundTerm
ground_name n = skolem n.number n.sort no_terms

abbrev pub ground_names : List (Option Name) → List (Option GroundTerm)
ground_names names = map (λ n. option_map ground_name n) names

-- what the innermost part of a term is: a literal, or a variable with its ground term, if it has one
pub data Root : Type 0 where
  literal : Root
  variable : Option GroundTerm → Root

abbrev pub root_of : List (Option GroundTerm) → Term → Root
root_of names (bound sort depth) = variable (slice_index_or names depth None)
root_of names (num n) = literal
root_of names (str t) = literal
root_of names (app f t) = root_of names t

-- the code's part is that part of the formula
abbrev pub IsPart : List Node → tree.Part → Part → Type 0
IsPart nodes (tree.existential v) (Existential w) = v ≡ record { number = w.number; sort = w.sort; above = w.above }
IsPart nodes (tree.existential v) (Universal s) = ⊥
IsPart nodes (tree.existential v) (Named id n) = ⊥
IsPart nodes (tree.existential v) (Dependent id) = ⊥
IsPart nodes (tree.existential v) (Literal id) = ⊥
IsPart nodes (tree.universal sort) (Existential w) = ⊥
IsPart nodes (tree.universal sort) (Universal s) = sort ≡ s
IsPart nodes (tree.universal sort) (Named id n) = ⊥
IsPart nodes (tree.universal sort) (Dependent id) = ⊥
IsPart nodes (tree.universal sort) (Literal id) = ⊥
IsPart nodes (tree.atom_term names t) (Existential w) = ⊥
IsPart nodes (tree.atom_term names t) (Universal s) = ⊥
IsPart nodes (tree.atom_term names t) (Named id n) = IsTerm nodes id × (t ≡ term_of nodes id) × (root_of names t ≡ variable (Some (ground_name n)))
IsPart nodes (tree.atom_term names t) (Dependent id) = IsTerm nodes id × (t ≡ term_of nodes id) × (root_of names t ≡ variable None)
IsPart nodes (tree.atom_term names t) (Literal id) = IsTerm nodes id × (t ≡ term_of nodes id) × (root_of names t ≡ literal)

abbrev pub AreParts : List Node → List tree.Part → List Part → Type 0
AreParts nodes [] [] = Unit {0}
AreParts nodes [] (c ∷ codes) = ⊥
AreParts nodes (p ∷ ps) [] = ⊥
AreParts nodes (p ∷ ps) (c ∷ codes) = IsPart nodes p c × AreParts nodes ps codes

-- A list, of which elements may have been left out that come again later in it.
abbrev pub Thins : {A : Type 0} → (A → Type 0) → List A → List A → Type 0
Thins may_go [] kept = kept ≡ []
Thins {A} may_go (x ∷ xs) kept = (may_go x × Contains xs x × Thins may_go xs kept) ⊎ ((rest : List A) × (kept ≡ x ∷ rest) × Thins may_go xs rest)

abbrev pub IsAtomTerm : tree.Part → Type 0
IsAtomTerm (tree.existential v) = ⊥
IsAtomTerm (tree.universal sort) = ⊥
IsAtomTerm (tree.atom_term names t) = Unit {0}

-- the code's parts are those of the formula, but for terms of atoms that come again later
abbrev pub AreThinned : List Node → List tree.Part → List Part → Type 0
AreThinned nodes ps codes = (kept : List tree.Part) × Thins IsAtomTerm ps kept × AreParts nodes kept codes

-- of a term of an atom
abbrev pub IsTermPart : List Node → List (Option Name) → ℕ → Part → Type 0
IsTermPart nodes names id code = IsPart nodes (tree.atom_term (ground_names names) (term_of nodes id)) code

-- the number in the code's part, if it has one, is that of a term
abbrev pub HasTerm : List Node → Part → Type 0
HasTerm nodes (Existential w) = Unit {0}
HasTerm nodes (Universal s) = Unit {0}
HasTerm nodes (Named id n) = IsTerm nodes id
HasTerm nodes (Dependent id) = IsTerm nodes id
HasTerm nodes (Literal id) = IsTerm nodes id

abbrev pub HaveTerms : List Node → List Part → Type 0
HaveTerms nodes [] = Unit {0}
HaveTerms nodes (c ∷ codes) = HasTerm nodes c × HaveTerms nodes codes
