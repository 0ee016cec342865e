-- For which cause, and at which place, a list of pieces is refused: the first cause that stands in it.
use Rattle.std.specs.Prelude.{◌≡◌, ℕ, List, [], ◌∷◌, ◌++◌}
use Rattle.text_ast.specs.Pieces.{Piece}
use Rattle.text_tree.specs.Forms.{Cause, NotGrammar, TooDeep, TooManyTokens, TooManyStatics, TooManyModels, TooManyFields, TooManyCommands}
use Rattle.text_grammar.specs.Causes.{GoesFirst}
use Rattle.door_requests.specs.Grammar.{G}
use Rattle.door_requests.specs.Texts.{IsSpelledAt, IsBegun}
use Rattle.door_requests.specs.Answers.{IsOver}

-- The pieces before the rest begin the form, without limits, and those with the next do not; or they are all pieces, and
-- spell nothing.
pub record IsEnd {A : Type 0} (f : G A) (ls rest : List Piece) : Type 0 where
  pub front : List Piece
  pub glued : ls ≡ front ++ rest
  pub begun : IsBegun f front
  pub ends : rest ≡ [] → (n : ℕ) (x : A) → ¬ (IsSpelledAt n f x front)
  pub next : (l : Piece) (more : List Piece) → rest ≡ l ∷ more → ¬ (IsBegun f (front ++ l ∷ []))

-- The next piece breaks the limit of the cause; what stands before it may begin at any number of levels.
abbrev pub IsLimitAt : {A : Type 0} → Cause → G A → List Piece → List Piece → Type 0
IsLimitAt c f ls rest = (m : ℕ) × IsOver m c f ls rest

-- The cause stands at the first piece of the rest.
abbrev pub Stands : {A : Type 0} → Cause → G A → List Piece → List Piece → Type 0
Stands NotGrammar f ls rest = IsEnd f ls rest
Stands TooDeep f ls rest = IsLimitAt TooDeep f ls rest
Stands TooManyTokens f ls rest = IsLimitAt TooManyTokens f ls rest
Stands TooManyStatics f ls rest = IsLimitAt TooManyStatics f ls rest
Stands TooManyModels f ls rest = IsLimitAt TooManyModels f ls rest
Stands TooManyFields f ls rest = IsLimitAt TooManyFields f ls rest
Stands TooManyCommands f ls rest = IsLimitAt TooManyCommands f ls rest

-- The cause stands there, and goes before every other that stands.
pub record IsRefused {A : Type 0} (f : G A) (c : Cause) (ls rest : List Piece) : Type 0 where
  pub stands : Stands c f ls rest
  pub first : (d : Cause) (other : List Piece) → Stands d f ls other → GoesFirst c rest d other
