-- Instances of parts of a formula.
use Rattle.std.specs.Prelude.{◌≡◌, ℕ, ◌<◌, Bool, true, not, ◌||◌, cond, List, [], ◌∷◌, ◌++◌, Option, None, Some, ◌⊎◌, Contains, length, slice_index_or}
use Rattle.std.specs.List.{list_all}
use Rattle.form_formula.specs.declared.node.Node.{Node}
use Rattle.form_formula.specs.declared.structure.Signature.{Signature}
use Rattle.form_formula.specs.Nodes.{ArePlaced, IsFormula, formula_of}
use Rattle.form_formula.specs.Trees.{Formula}
use Rattle.form_terms.specs.GroundTerms.{GroundTerm, GroundTerms, no_terms, term_and, and_last, list_of}
use Rattle.ground_terms.specs.declared.node.TermNode.{TermNode}
use Rattle.ground_terms.specs.Nodes.{IsList, list_of as list_at, Extends}
use Rattle.ground_terms.specs.Standing.{AreOnes, terms_at}
use Rattle.ground_instances.specs.declared.shapes.Shape.{Shape}
use Rattle.ground_instances.specs.declared.instance.Instance.{Instance}
use Rattle.ground_instances.specs.declared.board.Board.{Board}
use Rattle.ground_instances.specs.declared.work.Work.{Work}
use Rattle.ground_instances.specs.Boards.{Grows, Means}
use Rattle.ground_instances.specs.GroundAtoms.{GroundAtom, holds_at}
use Rattle.ground_instances.specs.Readings.{reading}
use Rattle.ground_instances.specs.Shapes.{AreShapes, is_in}

-- the numbers of terms, where those outside of the mask may be others
pub record IsMasked (mask : ℕ) (old new : List TermNode) (ids kept : List ℕ) : Type 0 where
  pub grown : Extends old new
  pub ones : AreOnes new kept
  pub size : length kept ≡ length ids
  pub same : (k : ℕ) → is_in mask k ≡ true → slice_index_or kept k 0 ≡ slice_index_or ids k 0

-- the instance of a part of this shape, with what it depends on
pub record IsInstanceOf (shape : Shape) (node number : ℕ) (variables arguments : List ℕ) (old new : List TermNode) (i : Instance) : Type 0 where
  pub kept : Extends old new
  pub part : i.node ≡ node
  pub variables_list : IsList new i.variables
  pub arguments_list : IsList new i.arguments
  pub size : length (list_of (list_at new i.variables)) ≡ length variables
  pub same : (k : ℕ) (d : GroundTerm) → is_in shape.variables k ≡ true
      → slice_index_or (list_of (list_at new i.variables)) k d ≡ slice_index_or (terms_at old variables) k d
  pub counted : shape.exists ≡ true → i.number ≡ number
  pub below : shape.exists ≡ true → list_of (list_at new i.arguments) ≡ terms_at old arguments

-- the numbers in an instance are those of a formula with a shape and of lists
pub record IsInstance (nodes : List Node) (shapes : List Shape) (terms : List TermNode) (i : Instance) : Type 0 where
  pub part : IsFormula nodes i.node
  pub within : i.node < length shapes
  pub variables : IsList terms i.variables
  pub arguments : IsList terms i.arguments

abbrev pub AreInstances : List Node → List Shape → List TermNode → List Instance → Type 0
AreInstances nodes shapes terms is = (i : Instance) → Contains is i → IsInstance nodes shapes terms i

-- how an instance is read
abbrev pub instance_reading : Signature → List GroundTerm → List Node → List TermNode → Instance → (GroundTerm → Bool) → (GroundAtom → Bool) → Bool
instance_reading g ts nodes terms i is_there holds =
    reading g ts is_there holds i.number (list_of (list_at terms i.variables)) (list_at terms i.arguments) (formula_of nodes i.node)

-- each gate that was made for an instance is true just where the instance is read true
abbrev pub IsMemo : Signature → List GroundTerm → List Node → List Shape → Board → List (Instance × ℕ) → Type 0
IsMemo g ts nodes shapes board entries =
    (i : Instance) (gate : ℕ) → Contains entries (i, gate) → IsInstance nodes shapes board.terms i × Means nodes board (instance_reading g ts nodes board.terms i) gate

-- of a gate that may have been found
abbrev pub MayMean : List Node → Board → ((GroundTerm → Bool) → (GroundAtom → Bool) → Bool) → Option ℕ → Type 0
MayMean nodes board test None = Unit {0}
MayMean nodes board test (Some gate) = Means nodes board test gate

-- the list of these terms
abbrev pub from_list : List GroundTerm → GroundTerms
from_list [] = no_terms
from_list (t ∷ ts) = term_and t (from_list ts)

-- how a part is read below what stands above it, where `forall`s range over the listed terms
abbrev pub part_test : Signature → List TermNode → List ℕ → ℕ → List ℕ → List ℕ → Formula → (GroundTerm → Bool) → (GroundAtom → Bool) → Bool
part_test g terms listed number variables arguments f is_there holds =
    reading g (terms_at terms listed) is_there holds number (terms_at terms variables) (from_list (terms_at terms arguments)) f

-- what was made is right, what is missing are instances, and the shapes are those of the nodes, which are placed
pub record IsReady (g : Signature) (nodes : List Node) (shapes : List Shape) (listed : List ℕ) (work : Work) : Type 0 where
  pub ones : AreOnes work.board.terms listed
  pub memo : IsMemo g (terms_at work.board.terms listed) nodes shapes work.board work.memo.made.entries
  pub missing : AreInstances nodes shapes work.board.terms work.missing.items
  pub shaped : AreShapes nodes shapes
  pub placed : ArePlaced nodes

-- an atom or its negation, where the variables above are these terms
abbrev pub signed_test : Bool → List TermNode → List ℕ → Formula → (GroundTerm → Bool) → (GroundAtom → Bool) → Bool
signed_test plus terms variables f is_there holds = cond plus (holds_at holds (terms_at terms variables) f) (not (holds_at holds (terms_at terms variables) f))

-- the body of a `forall` at one term more, or that the term is not there
abbrev pub one_test : Signature → List TermNode → List ℕ → ℕ → List ℕ → List ℕ → Formula → GroundTerm → (GroundTerm → Bool) → (GroundAtom → Bool) → Bool
one_test g terms listed number variables arguments f t is_there holds =
    not (is_there t) || reading g (terms_at terms listed) is_there holds number (terms_at terms variables ++ t ∷ []) (and_last (from_list (terms_at terms arguments)) t) f

-- and at each of some terms
abbrev pub each_test : Signature → List TermNode → List ℕ → ℕ → List ℕ → List ℕ → Formula → List ℕ → (GroundTerm → Bool) → (GroundAtom → Bool) → Bool
each_test g terms listed number variables arguments f choices is_there holds =
    list_all (λ t. one_test g terms listed number variables arguments f t is_there holds) (terms_at terms choices)

-- the work went on, and a gate that was found is true just where the test is
pub record IsGate (g : Signature) (nodes : List Node) (shapes : List Shape) (listed : List ℕ) (old new : Work) (test : (GroundTerm → Bool) → (GroundAtom → Bool) → Bool) (found : Option ℕ) : Type 0 where
  pub ready : IsReady g nodes shapes listed new
  pub grows : Grows old.board new.board
  pub means : MayMean nodes new.board test found

-- a gate for two that may have been found
pub record IsJoined (old new : Board) (both : Bool → Bool → Bool) (left right found : Option ℕ) : Type 0 where
  pub grows : Grows old new
  pub means : (nodes : List Node) (p q : (GroundTerm → Bool) → (GroundAtom → Bool) → Bool) → MayMean nodes old p left → MayMean nodes old q right
      → MayMean nodes new (λ is_there holds. both (p is_there holds) (q is_there holds)) found

-- a gate that may have been found is there
abbrev pub IsThere : Board → Option ℕ → Type 0
IsThere board None = Unit {0}
IsThere board (Some gate) = gate < length board.gates

-- only this entry was added
abbrev pub AddsEntry : List (Instance × ℕ) → Instance → ℕ → List (Instance × ℕ) → Type 0
AddsEntry old i gate new = (j : Instance) (other : ℕ) → Contains new (j, other) → Contains old (j, other) ⊎ ((j ≡ i) × (other ≡ gate))
