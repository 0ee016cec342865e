-- What the variables of the gates stand for.
use Rattle.std.specs.Prelude.{◌≡◌, ℕ, pos, Bool, false, List, [], ◌∷◌, ◌++◌, Option, None, Some, Contains, slice_get}
use Rattle.form_formula.specs.declared.node.Node.{Node}
use Rattle.form_formula.specs.Nodes as formula
use Rattle.form_formula.specs.Trees.{Term as ATerm, Formula, bound, num, str, app}
use Rattle.form_terms.specs.GroundTerms.{GroundTerm}
use Rattle.ground_terms.specs.declared.node.TermNode.{TermNode}
use Rattle.ground_terms.specs.Nodes.{IsOne, term_of, Extends}
use Rattle.ground_instances.specs.GroundAtoms.{GroundValue, GroundAtom, named, number, text, holds_at, equal_values, less_value, related, flagged, present_at}
use Rattle.ground_instances.specs.declared.input.Value.{Value}
use Rattle.ground_instances.specs.declared.input.Value.TheVariants.{Term, Literal}
use Rattle.ground_instances.specs.declared.input.Input.{Input}
use Rattle.ground_instances.specs.declared.input.Input.TheVariants.{There, Equal, Less, Has, Flag, Present}

-- the number is the input's, and all inputs are there as before, with no other one
pub record IsNumbered (old : List Input) (input : Input) (new : List Input) (id : ℕ) : Type 0 where
  pub there : slice_get new id ≡ Some input
  pub more : List Input
  pub whole : new ≡ old ++ more
  pub only : (other : Input) → Contains more other → other ≡ input

-- the number in a value is that of a ground term
abbrev pub IsValue : List TermNode → Value → Type 0
IsValue terms (Term id) = IsOne terms id
IsValue terms (Literal id) = Unit {0}

abbrev pub IsInput : List TermNode → Input → Type 0
IsInput terms (There id) = IsOne terms id
IsInput terms (Equal v w) = IsValue terms v × IsValue terms w
IsInput terms (Less v w) = IsValue terms v × IsValue terms w
IsInput terms (Has r v w) = IsValue terms v × IsValue terms w
IsInput terms (Flag h v) = IsValue terms v
IsInput terms (Present h v) = IsValue terms v

-- and so in all of some inputs
abbrev pub AreInputs : List TermNode → List Input → Type 0
AreInputs terms [] = Unit {0}
AreInputs terms (i ∷ is) = IsInput terms i × AreInputs terms is

-- of what may be no atom
abbrev pub MayBeInput : List TermNode → Option Input → Type 0
MayBeInput terms None = Unit {0}
MayBeInput terms (Some i) = IsInput terms i

-- a number or a text as a value; what is neither, which no input has, reads as 0
abbrev pub literal_of : ATerm → GroundValue
literal_of (bound sort depth) = number (pos 0)
literal_of (num n) = number n
literal_of (str t) = text t
literal_of (app h t) = number (pos 0)

module _ (nodes : List Node) (terms : List TermNode) where
  -- what a value is, where numbers stand for the terms of two arenas
  abbrev pub value_at : Value → GroundValue
  value_at (Term id) = named (term_of terms id)
  value_at (Literal id) = literal_of (formula.term_of nodes id)

  module _ (is_there : GroundTerm → Bool) (holds : GroundAtom → Bool) where
    -- the value of an input, where these terms are there and these atoms hold
    abbrev pub input_value : Input → Bool
    input_value (There id) = is_there (term_of terms id)
    input_value (Equal v w) = holds (equal_values (value_at v) (value_at w))
    input_value (Less v w) = holds (less_value (value_at v) (value_at w))
    input_value (Has r v w) = holds (related r (value_at v) (value_at w))
    input_value (Flag h v) = holds (flagged h (value_at v))
    input_value (Present h v) = holds (present_at h (value_at v))

    -- of what may be no atom
    abbrev pub atom_value : Option Input → Bool
    atom_value None = false
    atom_value (Some i) = input_value i

    -- the variables have the values of what they stand for
    abbrev pub AreInputsOf : List Input → (ℕ → Bool) → Type 0
    AreInputsOf inputs v = (k : ℕ) (i : Input) → slice_get inputs k ≡ Some i → v k ≡ input_value i

-- a value was found, and all nodes are there as before
pub record HasValue (nodes : List Node) (old new : List TermNode) (is : GroundValue) (v : Value) : Type 0 where
  pub kept : Extends old new
  pub fits : IsValue new v
  pub are : value_at nodes new v ≡ is

pub record HasValues (nodes : List Node) (old new : List TermNode) (is is' : GroundValue) (v w : Value) : Type 0 where
  pub kept : Extends old new
  pub fits : IsValue new v
  pub are : value_at nodes new v ≡ is
  pub fits' : IsValue new w
  pub are' : value_at nodes new w ≡ is'

-- the input of what may be an atom was found, and all nodes are there as before
pub record HasInput (nodes : List Node) (old new : List TermNode) (env : List GroundTerm) (a : Formula) (o : Option Input) : Type 0 where
  pub kept : Extends old new
  pub fits : MayBeInput new o
  pub are : (is_there : GroundTerm → Bool) (holds : GroundAtom → Bool) → atom_value nodes new is_there holds o ≡ holds_at holds env a
