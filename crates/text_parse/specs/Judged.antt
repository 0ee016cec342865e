-- What the parsers give for the tokens of a text.
use Rattle.std.specs.Prelude.{◌≡◌, ◌≢◌, ◌≤◌, ℕ, List, [], length, Result, Ok, Err}
use Rattle.text_ast.specs.Pieces.{Piece}
use Rattle.text_tree.specs.Forms.{Cause, NotGrammar, TooDeep, TooManyTokens, TooManyStatics, TooManyModels, TooManyFields, TooManyCommands}
use Rattle.text_grammar.specs.Reading.{Answer, Got, Stuck}
use Rattle.text_syntax.specs.declared.stop.Stop.{Stop}
use Rattle.text_syntax.specs.declared.stop.Stop.TheVariants as stop
use Rattle.text_parse.specs.Refused.{refusal_for}
use Rattle.text_parse.specs.declared.syntax_err.SyntaxErr.{SyntaxErr}
use Rattle.text_parse.specs.declared.syntax_err.SyntaxErr.TheVariants as err

-- Where the reader stops is one of so many tokens or behind them, and a limit is broken by a token that is there.
abbrev pub IsPlaced : Stop → ℕ → List Piece → Type 0
IsPlaced stop.NotGrammar count rest = length rest ≤ count
IsPlaced stop.TooDeep count rest = rest ≢ []
IsPlaced stop.TooManyTokens count rest = rest ≢ []
IsPlaced stop.TooManyStatics count rest = rest ≢ []
IsPlaced stop.TooManyModels count rest = rest ≢ []
IsPlaced stop.TooManyFields count rest = rest ≢ []
IsPlaced stop.TooManyCommands count rest = rest ≢ []
IsPlaced stop.OutOfMemory count rest = Unit {0}

-- what is answered where a form is not read
abbrev pub refusal_of : Stop → ℕ → List Piece → SyntaxErr
refusal_of stop.NotGrammar count rest = refusal_for count NotGrammar rest
refusal_of stop.TooDeep count rest = refusal_for count TooDeep rest
refusal_of stop.TooManyTokens count rest = refusal_for count TooManyTokens rest
refusal_of stop.TooManyStatics count rest = refusal_for count TooManyStatics rest
refusal_of stop.TooManyModels count rest = refusal_for count TooManyModels rest
refusal_of stop.TooManyFields count rest = refusal_for count TooManyFields rest
refusal_of stop.TooManyCommands count rest = refusal_for count TooManyCommands rest
refusal_of stop.OutOfMemory count rest = err.OutOfMemory

-- It gives what the reader answers for all of so many tokens, unless memory ran out.
abbrev pub Judges : {A : Type 0} → Answer A → ℕ → Result A SyntaxErr → Type 0
Judges answer count (Ok x) = (rest : List Piece) × (answer ≡ Got x rest)
Judges answer count (Err e) =
    e ≢ err.OutOfMemory → (c : Cause) × (rest : List Piece) × (answer ≡ Stuck c rest) × (e ≡ refusal_for count c rest)
