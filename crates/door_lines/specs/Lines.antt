-- The lines of what is read.
use Rattle.std.specs.Prelude.{◌≡◌, ◌≢◌, ◌⊎◌, ℕ, ◌+◌, ◌<◌, ◌≤◌, List, [], ◌∷◌, ◌++◌, length, slice_range, Option, None, Some, Result, Ok, Err}
use Rattle.std.specs.List.{All}
use Rattle.std.specs.Io.KnownBytes.{Consumes, IsAtEnd}
use Rattle.door_lines.specs.declared.lines.Line.{Line}
use Rattle.door_lines.specs.declared.lines.Line.TheVariants.{Text, Cut, End}
use Rattle.door_lines.specs.declared.source.FlowErr.{FlowErr}
use Rattle.door_lines.specs.declared.source.FlowErr.TheVariants.{ReadFault, TooLong, Budget, OutOfMemory}

-- What contracts see of a buffer: its room; from where to where it holds bytes there; how many bytes of the line at hand it
-- let go before these; how many bytes it took since it was made; and its limits.
pub record LineBufState : Type 0 where
  pub room : List ℕ
  pub from : ℕ
  pub to : ℕ
  pub dropped : ℕ
  pub taken : ℕ
  pub line_limit : ℕ
  pub budget : ℕ

-- the bytes that it holds
abbrev pub held : LineBufState → List ℕ
held buf = slice_range buf.room buf.from buf.to

-- No newline is among the bytes.
abbrev pub IsInLine : List ℕ → Type 0
IsInLine bytes = All (λ b. b ≢ 10) bytes

-- The rest: the bytes that were taken and belong to no line that was given. They are those that are held, and before them
-- those that were let go, which are of a line that is too long.
pub record IsRest (buf : LineBufState) (rest : List ℕ) : Type 0 where
  pub gone : List ℕ
  pub glued : rest ≡ gone ++ held buf
  pub size : length gone ≡ buf.dropped
  pub in_line : IsInLine gone

-- The line stands first in the bytes, with its newline, and what is behind that is the rest now; or the source has ended,
-- and the line is all the bytes, which are some.
abbrev pub IsFirst : Type 0 → LineBufState → List ℕ → List ℕ → Type 0
IsFirst ended buf bytes line =
    ((after : List ℕ) × (bytes ≡ line ++ 10 ∷ after) × IsRest buf after)
    ⊎ (ended × (bytes ≡ line) × (line ≢ []) × IsRest buf [])

-- The answer to the bytes that belong to no line given before: the first line of them, where it stands in the room, or that
-- it is too long; that there is none, and will be none; or why none is known, since no newline is among them.
abbrev pub Answers : Type 0 → LineBufState → List ℕ → Result Line FlowErr → Type 0
Answers ended buf bytes (Ok (Text from to)) =
    (line : List ℕ) × IsFirst ended buf bytes line × IsInLine line × (length line ≤ buf.line_limit)
    × (from ≤ to) × (to ≤ length buf.room) × (slice_range buf.room from to ≡ line)
Answers ended buf bytes (Ok Cut) =
    (line : List ℕ) × IsFirst ended buf bytes line × IsInLine line × (buf.line_limit < length line)
Answers ended buf bytes (Ok End) = ended × (bytes ≡ []) × IsRest buf []
Answers ended buf bytes (Err ReadFault) = IsInLine bytes × IsRest buf bytes
Answers ended buf bytes (Err Budget) = IsInLine bytes × (buf.taken ≡ buf.budget) × IsRest buf bytes
Answers ended buf bytes (Err (TooLong limit)) = ⊥
Answers ended buf bytes (Err OutOfMemory) = ⊥

-- The line stands in the room, where it says so.
abbrev pub IsPlaced : LineBufState → Line → Type 0
IsPlaced buf (Text from to) = (from ≤ to) × (to ≤ length buf.room)
IsPlaced buf Cut = Unit {0}
IsPlaced buf End = Unit {0}

-- The source has ended, and more bytes might have been taken.
abbrev pub HasEnded : Option (List ℕ) → LineBufState → Type 0
HasEnded left buf = IsAtEnd left × (buf.taken < buf.budget)

-- The limits stay.
pub record SameLimits (old new : LineBufState) : Type 0 where
  pub line_limit : new.line_limit ≡ old.line_limit
  pub budget : new.budget ≡ old.budget

-- A call for the next line: it took bytes, counted them, and answers to the rest and these bytes.
pub record IsNextLine (left behind : Option (List ℕ)) (old new : LineBufState) (result : Result Line FlowErr) : Type 0 where
  pub came : List ℕ
  pub consumed : Consumes left behind came
  pub counted : new.taken ≡ old.taken + length came
  pub limits : SameLimits old new
  pub answers : (rest : List ℕ) → IsRest old rest → Answers (HasEnded behind new) new (rest ++ came) result
