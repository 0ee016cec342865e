-- What clauses say that are being made.
use Rattle.std.specs.Prelude.{◌≡◌, ℕ, ◌≤◌, Bool, true, ◌||◌, List, [], ◌∷◌, ◌++◌, Option, map, length}
use Rattle.std.specs.List.{list_all}
use Rattle.ground_gates.specs.declared.gate.Literal.{Literal}
use Rattle.ground_gates.specs.declared.gate.Gate.{Gate as AnyGate}
use Rattle.ground_gates.specs.Clauses.{AreFactsBelow, HaveVarsBelow, Meets}
use Rattle.ground_gates.specs.declared.board.Board.{Board}
use Rattle.ground_gates.specs.declared.names.Owner.TheVariants.{Input}
use Rattle.ground_gates.specs.declared.parts.Parts.{Parts}
use Rattle.ground_gates.specs.Meaning.{IsFaithful, IsSoundBelow, IsSoundAtInputs, some_part, truth, under}
use Rattle.ground_gates.specs.Names.{Grows, IsGateNamed, IsNamed, end_of}

-- there are places for the inputs, which stand for variables below the base
pub record AreInputsPlaced (inputs : List (List ℕ)) (board : Board) : Type 0 where
  pub places : board.names.input_places ≡ length inputs
  pub facts : AreFactsBelow board.names.base inputs

abbrev pub clauses_in : Board → List (List Literal)
clauses_in board = map (λ c. c.items) board.clauses.items

-- one clause more
pub record IsPushed (old new : Board) (clause : List Literal) : Type 0 where
  pub names : new.names ≡ old.names
  pub clauses : clauses_in new ≡ clauses_in old ++ clause ∷ []

-- a gate has a variable, and the clauses are the same
pub record HasGate (k : ℕ) (old new : Board) (x : ℕ) : Type 0 where
  pub clauses : clauses_in new ≡ clauses_in old
  pub named : IsGateNamed k old.names new.names x

module _ (gates : List AnyGate) (inputs : List (List ℕ)) where
  -- What was asked for follows from the clauses and from what is still to be said; and where it is true, so are both, with variables that are true exactly
  -- where what they stand for is. The variables that are new are of inputs, and of gates below this one; the clauses speak of none behind them.
  pub record Goes (j : ℕ) (old new : Board) (asked rest : (ℕ → Bool) → Bool) : Type 0 where
    pub names : Grows j old.names new.names
    pub more : List (List Literal)
    pub whole : clauses_in new ≡ clauses_in old ++ more
    pub within : HaveVarsBelow (end_of old.names) (clauses_in old) → HaveVarsBelow (end_of new.names) (clauses_in new)
    pub inputs_too : (w : ℕ → Bool) → Meets (clauses_in new) w → IsSoundAtInputs gates inputs w old.names → IsSoundAtInputs gates inputs w new.names
    pub sound : (w : ℕ → Bool) → Meets (clauses_in new) w → IsSoundBelow gates inputs w j new.names → IsSoundAtInputs gates inputs w new.names
        → rest w ≡ true → asked w ≡ true
    pub complete : (w : ℕ → Bool) → IsFaithful gates inputs w new.names → asked w ≡ true → Meets (clauses_in old) w
        → Meets (clauses_in new) w × (rest w ≡ true)

  -- an input has a variable
  pub record HasInput (j k : ℕ) (old new : Board) (x : ℕ) : Type 0 where
    pub goes : (asked : (ℕ → Bool) → Bool) → Goes j old new asked asked
    pub is : IsNamed new.names (Input k) x

  -- one of the parts is true, and so if one always is
  abbrev pub some_of : Bool → Parts → (ℕ → Bool) → Bool
  some_of always p w = always || some_part gates inputs w p

  -- a gate is true where a variable is, and so are all of some others
  abbrev pub all_under : Option ℕ → List ℕ → (ℕ → Bool) → Bool
  all_under whole stack w = under whole w (list_all (truth gates inputs w) stack)

  -- there is nothing left to be said
  abbrev pub Says : ℕ → Board → Board → ((ℕ → Bool) → Bool) → Type 0
  Says j old new asked = Goes j old new asked (λ w. true)

-- there are places for the gates and the inputs, and those stand for variables below the base
pub record IsPlacedFor (gates : List AnyGate) (inputs : List (List ℕ)) (below : ℕ) (board : Board) : Type 0 where
  pub few : below ≤ length gates
  pub places : board.names.places ≡ length gates
  pub inputs_placed : AreInputsPlaced inputs board
