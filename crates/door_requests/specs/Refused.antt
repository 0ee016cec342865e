-- Why a text spells no tree of a form of requests, and where.
use Rattle.std.specs.Prelude.{◌≡◌, ◌+◌, ℕ, List, ◌∷◌, length}
use Rattle.text_lexer.specs.Lexes.{Lexes}
use Rattle.text_lexer.specs.Refused.{Refuses}
use Rattle.text_lexer.specs.declared.lex_err.LexErr.TheVariants as lex
use Rattle.text_lexer.specs.declared.token.Token.{Token}
use Rattle.text_ast.specs.Pieces.{Piece, pieces_of}
use Rattle.text_tree.specs.Forms.{Cause, NotGrammar, TooDeep, TooManyTokens, TooManyStatics, TooManyModels, TooManyFields, TooManyCommands}
use Rattle.door_requests.specs.Grammar.{G}
use Rattle.door_requests.specs.Causes.{IsRefused}
use Rattle.text_parse.specs.declared.syntax_err.SyntaxErr.{SyntaxErr}
use Rattle.text_parse.specs.declared.syntax_err.SyntaxErr.TheVariants as err
use Rattle.text_parse.specs.declared.syntax_err.What.TheVariants as what

-- The tokens of the text are refused for the cause at the first piece of the rest.
abbrev pub HasCause : {A : Type 0} → G A → List ℕ → List Token → Cause → List Piece → Type 0
HasCause f text tokens c rest = Lexes text tokens × IsRefused f c (pieces_of text tokens) rest

-- at the token with this offset
abbrev pub HasCauseAt : {A : Type 0} → G A → List ℕ → Cause → ℕ → Type 0
HasCauseAt f text c at =
    (tokens : List Token) × (l : Piece) × (more : List Piece) × HasCause f text tokens c (l ∷ more) × (l.at ≡ at)

-- at the token with so many others before it, or behind them all
abbrev pub HasCauseAfter : {A : Type 0} → G A → List ℕ → Cause → ℕ → Type 0
HasCauseAfter f text c count =
    (tokens : List Token) × (rest : List Piece) × HasCause f text tokens c rest × (count + length rest ≡ length tokens)

-- The text spells no tree of the form, for this cause and at this place: it has no tokens, or they are refused.
abbrev pub IsRefusedAs : {A : Type 0} → G A → List ℕ → SyntaxErr → Type 0
IsRefusedAs f text (err.NotText at) = Refuses text (lex.NotText at)
IsRefusedAs f text (err.BadByte at) = Refuses text (lex.BadByte at)
IsRefusedAs f text (err.BadNumber at) = Refuses text (lex.BadNumber at)
IsRefusedAs f text (err.Unfinished at) = Refuses text (lex.Unfinished at)
IsRefusedAs f text (err.NotGrammar token) = HasCauseAfter f text NotGrammar token
IsRefusedAs f text (err.TooDeep at) = HasCauseAt f text TooDeep at
IsRefusedAs f text (err.TooManyTokens at) = HasCauseAt f text TooManyTokens at
IsRefusedAs f text (err.TooMany what.Statics at) = HasCauseAt f text TooManyStatics at
IsRefusedAs f text (err.TooMany what.Models at) = HasCauseAt f text TooManyModels at
IsRefusedAs f text (err.TooMany what.Fields at) = HasCauseAt f text TooManyFields at
IsRefusedAs f text (err.TooMany what.Commands at) = HasCauseAt f text TooManyCommands at
IsRefusedAs f text (err.TooMany what.NameBytes at) = Refuses text (lex.TooManyNameBytes at)
IsRefusedAs f text (err.TooMany what.TextBytes at) = Refuses text (lex.TooManyTextBytes at)
IsRefusedAs f text err.OutOfMemory = ⊥
