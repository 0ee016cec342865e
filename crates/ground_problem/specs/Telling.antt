-- A vocabulary as it is found.
use Rattle.std.specs.Prelude.{◌≡◌, ◌<◌, ℕ, ◌⊎◌, Bool, true, List, [], ◌∷◌, Some, Contains, length, map, slice_get}
use Rattle.form_formula.specs.declared.structure.Signature.{Signature}
use Rattle.form_formula.specs.Trees.{Formula}
use Rattle.form_terms.specs.GroundTerms.{GroundTerm, sort_of}
use Rattle.form_terms.specs.Universe.{variables_of}
use Rattle.ground_terms.specs.declared.node.TermNode.{TermNode}
use Rattle.ground_terms.specs.Nodes.{IsOne, term_of}
use Rattle.ground_terms.specs.declared.part.Variable.{Variable}
use Rattle.ground_terms.specs.Standing.{AreOnes, terms_at}
use Rattle.ground_terms.specs.Variables.{variable_at}
use Rattle.form_tables.specs.Vocabulary.{Vocabulary, IsFormed, IsOther, only}
use Rattle.ground_problem.specs.declared.telling.Standing.{Standing}
use Rattle.ground_problem.specs.declared.telling.Standing.TheVariants.{Absent, Named, Other}
use Rattle.ground_problem.specs.declared.telling.Telling.{Telling}

-- what was found so far, as a vocabulary without pairs
abbrev pub told_so_far : List TermNode → Telling → Vocabulary
told_so_far nodes t = record { named = terms_at nodes t.named.items; others = terms_at nodes t.others.items; pairs = [] }

module _ (g : Signature) (variables : List Variable) (listed : List GroundTerm) (closed : Bool) where
  -- the term has a sort; and it is a listed one, or formed of the named ones. In a closed list it is a listed one
  pub record IsFine (named : List GroundTerm) (t : GroundTerm) : Type 0 where
    pub kind : (sort : ℕ) × (sort_of g t ≡ Some sort)
    pub formed : (f : Formula) → map variable_at variables ≡ variables_of g f → Contains listed t ⊎ IsFormed g f (only named) t
    pub within : closed ≡ true → Contains listed t

  -- what a number stands for, where these terms are named
  abbrev pub IsStandingOf : List TermNode → List GroundTerm → ℕ → Standing → Type 0
  IsStandingOf nodes named id Absent = Unit {0}
  IsStandingOf nodes named id Named = IsOne nodes id × IsFine named (term_of nodes id)
  IsStandingOf nodes named id Other = IsOne nodes id × IsOther g (only named) (term_of nodes id)

  pub record IsTelling (nodes : List TermNode) (t : Telling) : Type 0 where
    pub ones : AreOnes nodes t.named.items
    pub other_ones : AreOnes nodes t.others.items
    pub marked : (id : ℕ) → slice_get t.standings.items id ≡ Some Named → IsOne nodes id × Contains (terms_at nodes t.named.items) (term_of nodes id)
    pub marked_other : (id : ℕ) → slice_get t.standings.items id ≡ Some Other → IsOne nodes id × Contains (terms_at nodes t.others.items) (term_of nodes id)
    pub fine : (u : GroundTerm) → Contains (terms_at nodes t.named.items) u → IsFine (terms_at nodes t.named.items) u
    pub functions : (u : GroundTerm) → Contains (terms_at nodes t.others.items) u → IsOther g (only (terms_at nodes t.named.items)) u

-- the marked numbers are named
abbrev pub AreMarked : List TermNode → Telling → Type 0
AreMarked nodes t = (id : ℕ) → slice_get t.standings.items id ≡ Some Named → IsOne nodes id × Contains (terms_at nodes t.named.items) (term_of nodes id)

abbrev pub AreMarkedOther : List TermNode → Telling → Type 0
AreMarkedOther nodes t = (id : ℕ) → slice_get t.standings.items id ≡ Some Other → IsOne nodes id × Contains (terms_at nodes t.others.items) (term_of nodes id)

-- a marked number is that of a listed term
abbrev pub AreListedMarks : List TermNode → List ℕ → List Bool → Type 0
AreListedMarks nodes listed marks = (id : ℕ) → slice_get marks id ≡ Some true → Contains (terms_at nodes listed) (term_of nodes id)

-- and each listed number is marked
abbrev pub AreAllMarked : List TermNode → List ℕ → List Bool → Type 0
AreAllMarked nodes listed marks = (id : ℕ) → Contains listed id → id < length nodes → slice_get marks id ≡ Some true

-- a marked number, of a term that has a sort
pub record IsListedElement (g : Signature) (nodes : List TermNode) (marks : List Bool) (id : ℕ) : Type 0 where
  pub one : IsOne nodes id
  pub marked : slice_get marks id ≡ Some true
  pub sort : ℕ
  pub sorted : sort_of g (term_of nodes id) ≡ Some sort

-- the listed numbers are those of terms that have a sort
pub record AreSorted (g : Signature) (nodes : List TermNode) (listed : List ℕ) : Type 0 where
  pub ones : AreOnes nodes listed
  pub sorted : (u : GroundTerm) → Contains (terms_at nodes listed) u → (sort : ℕ) × (sort_of g u ≡ Some sort)

-- what a standing adds to the named numbers, and to the others
abbrev pub named_by : Standing → ℕ → List ℕ
named_by Absent id = []
named_by Named id = id ∷ []
named_by Other id = []

abbrev pub others_by : Standing → ℕ → List ℕ
others_by Absent id = []
others_by Named id = []
others_by Other id = id ∷ []
