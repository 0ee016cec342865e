-- The text of a request.
use Rattle.std.specs.Prelude.{ℕ, List, [], Option}
use Rattle.text_lexer.specs.declared.token.Token.{Token}
use Rattle.text_lexer.specs.Lexes.{Lexes}
use Rattle.text_ast.specs.Pieces.{Piece, pieces_of}
use Rattle.text_ast.specs.Limits.{most_levels}
use Rattle.text_tree.specs.Forms.{Want, Spells, Begins, loosened, first}
use Rattle.text_tree.specs.Levels.{SpellsPart, BeginsPart}
use Rattle.door_requests.specs.declared.place.Place.{Place}
use Rattle.door_requests.specs.declared.requests.Request.{Request}
use Rattle.door_requests.specs.Grammar.{G, rule, line_form}

-- the tokens that may come first in a value
abbrev pub first_of : Place → List Want
first_of p = first (λ q. []) (rule p)

-- within the limit of levels
abbrev pub IsSpelled : {A : Type 0} → G A → A → List Piece → Type 0
IsSpelled f x ls = Spells (SpellsPart rule most_levels) f x ls

-- without limits but that of so many levels
abbrev pub IsSpelledAt : {A : Type 0} → ℕ → G A → A → List Piece → Type 0
IsSpelledAt n f x ls = Spells (SpellsPart rule n) (loosened f) x ls

abbrev pub IsBegunAt : {A : Type 0} → ℕ → G A → List Piece → Type 0
IsBegunAt n f ls = Begins (SpellsPart rule n) (BeginsPart rule first_of n) f ls

-- without limits
abbrev pub IsBegun : {A : Type 0} → G A → List Piece → Type 0
IsBegun f ls = (n : ℕ) × IsBegunAt n f ls

-- The text has tokens, and they spell the tree.
abbrev pub IsTextOf : {A : Type 0} → G A → List ℕ → A → Type 0
IsTextOf f text x = (tokens : List Token) × Lexes text tokens × IsSpelled f x (pieces_of text tokens)

-- The line spells the request, or it has no token.
abbrev pub IsLineOf : List ℕ → Option Request → Type 0
IsLineOf = IsTextOf line_form
