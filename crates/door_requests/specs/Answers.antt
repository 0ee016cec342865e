-- What the reader of a form of requests answers for a whole list of pieces, and what that answer means.
use Rattle.std.specs.Prelude.{◌≡◌, ℕ, List, [], ◌∷◌, ◌++◌}
use Rattle.text_ast.specs.Pieces.{Piece}
use Rattle.text_tree.specs.Forms.{Cause, NotGrammar, TooDeep, TooManyTokens, TooManyStatics, TooManyModels, TooManyFields, TooManyCommands, Breaks}
use Rattle.text_tree.specs.Levels.{SpellsPart, BeginsPart, IsTooDeep}
use Rattle.door_requests.specs.Grammar.{G, rule}
use Rattle.text_ast.specs.Limits.{most_levels}
use Rattle.door_requests.specs.Texts.{IsSpelled, IsSpelledAt, IsBegunAt, first_of}
use Rattle.text_grammar.specs.Reading.{Answer, Got, Stuck, read, read_part}
use Rattle.text_grammar.specs.Answers.{whole}

-- what the reader of a form answers for a whole list of pieces
unfoldable pub answer : {A : Type 0} → G A → List Piece → Answer A
answer f ls = whole (read first_of (read_part rule first_of most_levels) f ls)

-- The pieces before the rest begin the form, at so many levels and any limits, and those with the next do not; or they end
-- and spell nothing.
pub record IsNotGrammar {A : Type 0} (m : ℕ) (f : G A) (ls rest : List Piece) : Type 0 where
  pub front : List Piece
  pub glued : ls ≡ front ++ rest
  pub begun : IsBegunAt m f front
  pub ends : rest ≡ [] → (x : A) → ¬ (IsSpelledAt m f x front)
  pub next : (l : Piece) (more : List Piece) → rest ≡ l ∷ more → ¬ (IsBegunAt m f (front ++ l ∷ []))

-- The next piece is the first that breaks the limit of the cause.
pub record IsOver {A : Type 0} (m : ℕ) (c : Cause) (f : G A) (ls rest : List Piece) : Type 0 where
  pub front : List Piece
  pub last : Piece
  pub more : List Piece
  pub glued : ls ≡ front ++ rest
  pub stands : rest ≡ last ∷ more
  pub breaks :
      Breaks (SpellsPart rule most_levels) (SpellsPart rule m) (BeginsPart rule first_of m) (IsTooDeep rule first_of m most_levels) c f
      (front ++ last ∷ [])

-- what an answer means: a tree is spelled; or the front begins the form and the next piece ends that; or the next piece is the first that breaks a limit
abbrev pub Means : {A : Type 0} → ℕ → G A → List Piece → Answer A → Type 0
Means m f ls (Got x rest) = IsSpelled f x ls
Means m f ls (Stuck NotGrammar rest) = IsNotGrammar m f ls rest
Means m f ls (Stuck TooDeep rest) = IsOver m TooDeep f ls rest
Means m f ls (Stuck TooManyTokens rest) = IsOver m TooManyTokens f ls rest
Means m f ls (Stuck TooManyStatics rest) = IsOver m TooManyStatics f ls rest
Means m f ls (Stuck TooManyModels rest) = IsOver m TooManyModels f ls rest
Means m f ls (Stuck TooManyFields rest) = IsOver m TooManyFields f ls rest
Means m f ls (Stuck TooManyCommands rest) = IsOver m TooManyCommands f ls rest
