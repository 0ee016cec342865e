-- What a function that reads a form gives.
use Rattle.std.specs.Prelude.{◌≡◌, ℕ, List, Option, Some, None, Result, Ok, Err}
use Rattle.text_ast.specs.Pieces.{Piece}
use Rattle.text_tree.specs.Forms.{Cause, NotGrammar, TooDeep, TooManyTokens, TooManyStatics, TooManyModels, TooManyFields, TooManyCommands}
use Rattle.text_tree.specs.ExprGrammar.{G, rule}
use Rattle.text_tree.specs.Texts.{first_of}
use Rattle.text_grammar.specs.Reading.{Answer, Got, Stuck, Reader, at_most, read, read_part}
use Rattle.text_syntax.specs.declared.stop.Stop.{Stop}
use Rattle.text_syntax.specs.declared.stop.Stop.TheVariants as stop

-- the cause that the code names
abbrev pub cause_of : Stop → Option Cause
cause_of stop.NotGrammar = Some NotGrammar
cause_of stop.TooDeep = Some TooDeep
cause_of stop.TooManyTokens = Some TooManyTokens
cause_of stop.TooManyStatics = Some TooManyStatics
cause_of stop.TooManyModels = Some TooManyModels
cause_of stop.TooManyFields = Some TooManyFields
cause_of stop.TooManyCommands = Some TooManyCommands
cause_of stop.OutOfMemory = None

-- It gives what the reader answers, and leaves the pieces that the reader leaves, unless memory ran out.
abbrev pub Reads : {A : Type 0} → Answer A → Result A Stop → List Piece → Type 0
Reads answer (Ok x) rest = answer ≡ Got x rest
Reads answer (Err stop) rest = (c : Cause) → cause_of stop ≡ Some c → answer ≡ Stuck c rest

-- the reader of a form in which parts nest so many levels deep
abbrev pub reading : {A : Type 0} → ℕ → G A → Reader A
reading levels f = read first_of (read_part rule first_of levels) f

-- Where a reader stopped for the first cause, a budget of so many tokens stops for the other.
abbrev pub IsStopWithin : ℕ → List Piece → List Piece → Stop → Stop → List Piece → Type 0
IsStopWithin most ls rest stop other left =
    (c d : Cause) → cause_of stop ≡ Some c → cause_of other ≡ Some d → at_most {A = ℕ} most ls (Stuck c rest) ≡ Stuck d left
