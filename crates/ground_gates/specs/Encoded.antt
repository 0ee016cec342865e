-- What the clauses say of a gate whose parts below some number are still to be said.
use Rattle.std.specs.Prelude.{◌≡◌, ℕ, Bool, true, List}
use Rattle.ground_gates.specs.declared.gate.Gate.{Gate as AnyGate}
use Rattle.ground_gates.specs.Clauses.{HaveVarsBelow, Meets}
use Rattle.ground_gates.specs.declared.board.Board.{Board}
use Rattle.ground_gates.specs.Meaning.{IsFaithful, IsSoundBelow, IsSoundAtInputs, truth}
use Rattle.ground_gates.specs.Names.{end_of}
use Rattle.ground_gates.specs.Said.{clauses_in, IsPlacedFor}

-- Where the clauses are met a gate is true, if the variables of gates below this one are as they should; and where it is true, so are they, with variables
-- that are true exactly where what they stand for is.
pub record IsEncodedTo (gates : List AnyGate) (inputs : List (List ℕ)) (base root j : ℕ) (board : Board) : Type 0 where
  pub begins : board.names.base ≡ base
  pub placed : IsPlacedFor gates inputs root board
  pub within : HaveVarsBelow (end_of board.names) (clauses_in board)
  pub own : (w : ℕ → Bool) → Meets (clauses_in board) w → IsSoundAtInputs gates inputs w board.names
  pub sound : (w : ℕ → Bool) → Meets (clauses_in board) w → IsSoundBelow gates inputs w j board.names → truth gates inputs w root ≡ true
  pub complete : (w : ℕ → Bool) → IsFaithful gates inputs w board.names → truth gates inputs w root ≡ true → Meets (clauses_in board) w
