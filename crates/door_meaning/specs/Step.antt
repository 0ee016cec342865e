-- The door as a machine: what a line is answered, and what the door keeps then.
use Rattle.std.specs.Prelude.{◌≡◌, ◌<◌, ℕ, List, [], ◌∷◌, ◌++◌, length, slice_get, Option, None, Some}
use Rattle.std.specs.Option.{option_map_or}
use Rattle.app_flow.specs.Files.{Files}
use Rattle.app_store.specs.Calls.{Call, Fetch}
use Rattle.text_lexer.specs.declared.token.Token.{Token}
use Rattle.text_lexer.specs.Lexes.{Lexes}
use Rattle.text_parse.specs.declared.syntax_err.SyntaxErr.{SyntaxErr}
use Rattle.text_parse.specs.declared.syntax_err.SyntaxErr.TheVariants as err
use Rattle.door_requests.specs.declared.requests.Request.{Request}
use Rattle.door_requests.specs.declared.requests.Request.TheVariants as request
use Rattle.door_requests.specs.Grammar.{line_form}
use Rattle.door_requests.specs.Refused.{IsRefusedAs}
use Rattle.door_requests.specs.Texts.{IsLineOf}
use Rattle.door_meaning.specs.Migrates.{IsMigration}
use Rattle.door_meaning.specs.Records.{create_stage, delete_stage, find_stage, read_stage, write_stage}
use Rattle.door_meaning.specs.Replies.{BadLine, Quiet, reply_text}
use Rattle.door_meaning.specs.Sessions.{Outcome, closed, opened, outcome_of, renewed}
use Rattle.door_meaning.specs.State.{State}
use Rattle.door_meaning.specs.declared.limits.TheConstants.{MOST_LINE_BYTES}
use Rattle.store_keeper.specs.Stored.{last_version}

abbrev pub most_line_bytes : ℕ
most_line_bytes = MOST_LINE_BYTES

-- What a request is answered, but for `migrate`, which reads a file.
abbrev pub IsAnswered : Option Files → State → Request → List Call → Outcome → Type 0
IsAnswered files st (request.Open session who at) calls outcome = (calls ≡ []) × (outcome ≡ opened st session.name who)
IsAnswered files st (request.Renew session at) calls outcome = (calls ≡ []) × (outcome ≡ renewed st session.name)
IsAnswered files st (request.Close session at) calls outcome = (calls ≡ []) × (outcome ≡ closed st session.name)
IsAnswered files st (request.Read session model id field at) calls outcome = (calls ≡ []) × (outcome ≡ outcome_of st (read_stage st session model id field))
IsAnswered files st (request.Find session model conditions at) calls outcome = (calls ≡ []) × (outcome ≡ outcome_of st (find_stage st session model conditions))
IsAnswered files st (request.Write session model id field value at) calls outcome = (calls ≡ []) × (outcome ≡ outcome_of st (write_stage st session model id field value))
IsAnswered files st (request.Create session model row at) calls outcome = (calls ≡ []) × (outcome ≡ outcome_of st (create_stage st session model row))
IsAnswered files st (request.Delete session model id at) calls outcome = (calls ≡ []) × (outcome ≡ outcome_of st (delete_stage st session model id))
IsAnswered files st (request.Migrate name at) calls outcome = IsMigration files st name calls outcome

-- The calls of the shelf that a request may make, whatever comes of them: none; or the fetch of the file that a `migrate` names, where the
-- version can rise.
pub data MayFetch (st : State) (r : Request) (calls : List Call) : Type 0 where
  NoFile : calls ≡ [] → MayFetch st r calls
  ItsFile : (name : List ℕ) (at : ℕ) → r ≡ request.Migrate name at → st.stored.version < last_version → calls ≡ Fetch name ∷ [] → MayFetch st r calls

-- the offset of the token with so many others before it, or the length of the line where there are no more
abbrev pub token_offset : List Token → ℕ → ℕ → ℕ
token_offset tokens n end = option_map_or (λ (t : Token). t.at) (slice_get tokens n) end

-- Where a line is bad: where its cause stands.
abbrev pub IsBadAt : List ℕ → SyntaxErr → ℕ → Type 0
IsBadAt line (err.NotText at) place = place ≡ at
IsBadAt line (err.BadByte at) place = place ≡ at
IsBadAt line (err.BadNumber at) place = place ≡ at
IsBadAt line (err.Unfinished at) place = place ≡ at
IsBadAt line (err.NotGrammar token) place = (tokens : List Token) × Lexes line tokens × (place ≡ token_offset tokens token (length line))
IsBadAt line (err.TooDeep at) place = place ≡ at
IsBadAt line (err.TooManyTokens at) place = place ≡ at
IsBadAt line (err.TooMany what at) place = place ≡ at
IsBadAt line err.OutOfMemory place = ⊥

-- what the door reads: a line within the limit of lines, or one that is too long
pub data Line : Type 0 where
  Whole : List ℕ → Line
  Cut : Line

-- The calls of the shelf that a line may make, whatever comes of them: those of its request.
pub data LineMayFetch (st : State) (line : Line) (calls : List Call) : Type 0 where
  Unasked : calls ≡ [] → LineMayFetch st line calls
  Asked : (bytes : List ℕ) (r : Request) → line ≡ Whole bytes → IsLineOf bytes (Some r) → MayFetch st r calls → LineMayFetch st line calls

-- A step of the door at a line, with the calls of the shelf that it makes.
pub data DoorStep (files : Option Files) (st : State) : Line → List Call → Outcome → Type 0 where
  Quietly : (line : List ℕ) → IsLineOf line None → DoorStep files st (Whole line) [] (record { reply = Quiet; state = st })
  Answered : (line : List ℕ) (r : Request) (calls : List Call) (outcome : Outcome) → IsLineOf line (Some r) → IsAnswered files st r calls outcome
      → DoorStep files st (Whole line) calls outcome
  Badly : (line : List ℕ) (e : SyntaxErr) (at : ℕ) → IsRefusedAs line_form line e → IsBadAt line e at
      → DoorStep files st (Whole line) [] (record { reply = BadLine at; state = st })
  TooLong : DoorStep files st Cut [] (record { reply = BadLine most_line_bytes; state = st })

-- The run over a list of lines, with the calls of the shelf that it makes, in their order, and all that is put out.
pub data DoorRun (files : Option Files) : State → List Line → List Call → List ℕ → State → Type 0 where
  Stands : (st : State) → DoorRun files st [] [] [] st
  Steps : (st after : State) (line : Line) (lines : List Line) (calls more : List Call) (outcome : Outcome) (text : List ℕ) → DoorStep files st line calls outcome
      → DoorRun files outcome.state lines more text after → DoorRun files st (line ∷ lines) (calls ++ more) (reply_text outcome.reply ++ text) after
