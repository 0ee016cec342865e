-- Paths: the literals that the splits above a place in a tree set, the outermost first.
use Rattle.std.specs.Prelude.{◌≡◌, ℕ, ◌==◌, Bool, true, false, not, cond, List, [], ◌∷◌, ◌++◌, Option, None, Some}
use Rattle.certify_clauses.specs.declared.literal.Literal.{Literal}

-- the literal that is true where the variable is, and the one that is true where it is false
abbrev pub positive : ℕ → Literal
positive v = record { var = v; plus = true }

abbrev pub negative : ℕ → Literal
negative v = record { var = v; plus = false }

-- the literal that is true where this one is false
abbrev pub opposite : Literal → Literal
opposite l = record { var = l.var; plus = not l.plus }

-- the value that a path gives a variable, if the variable is on it
abbrev pub value_on : List Literal → ℕ → Option Bool
value_on [] v = None
value_on (l ∷ ls) v = cond (l.var == v) (Some l.plus) (value_on ls v)

-- a literal is false on a path that gives its variable the other value
abbrev pub IsFalseOn : List Literal → Literal → Type 0
IsFalseOn path l = value_on path l.var ≡ Some (not l.plus)

-- the paths that a path leaves for later: where it takes a variable to be true, the same front with the variable false, the
-- innermost first
module _ (front : List Literal) where
  abbrev pub pending_one : Literal → List (List Literal)
  pending_one l = cond l.plus ((front ++ opposite l ∷ []) ∷ []) []

abbrev pub pending_behind : List Literal → List Literal → List (List Literal)
pending_behind front [] = []
pending_behind front (l ∷ ls) = pending_behind (front ++ l ∷ []) ls ++ pending_one front l

abbrev pub pending : List Literal → List (List Literal)
pending path = pending_behind [] path
