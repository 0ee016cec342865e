-- The turns of a call for the next line.
use Rattle.std.specs.Prelude.{◌≡◌, ℕ, ◌+◌, ◌<◌, ◌≤◌, List, ◌++◌, length, Option, None, Some, Result, Ok, Err}
use Rattle.std.specs.Io.KnownBytes.{Consumes}
use Rattle.door_lines.specs.declared.lines.Line.{Line}
use Rattle.door_lines.specs.declared.lines.Line.TheVariants.{Text, Cut, End}
use Rattle.door_lines.specs.declared.source.FlowErr.{FlowErr}
use Rattle.door_lines.specs.Lines.{LineBufState, IsInLine, IsNextLine, IsRest, SameLimits, held}

-- The first bytes that are held, so many, with those that were let go: the line that they are.
abbrev pub IsLineOf : LineBufState → ℕ → Line → Type 0
IsLineOf buf size (Text from to) = (buf.dropped ≡ 0) × (size ≤ buf.line_limit) × (from ≡ buf.from) × (to ≡ buf.from + size)
IsLineOf buf size Cut = buf.line_limit < buf.dropped + size
IsLineOf buf size End = ⊥

-- The same bytes are held, and as many were let go and taken.
pub record SameCounts (old new : LineBufState) : Type 0 where
  pub taken : new.taken ≡ old.taken
  pub limits : SameLimits old new

-- Bytes were taken, and stand behind the rest.
pub record HasTaken (left behind : Option (List ℕ)) (old new : LineBufState) : Type 0 where
  pub came : List ℕ
  pub consumed : Consumes left behind came
  pub counted : new.taken ≡ old.taken + length came
  pub limits : SameLimits old new
  pub rest : (rest : List ℕ) → IsRest old rest → IsRest new (rest ++ came)

-- A turn: more bytes were taken and still no newline is among them, or it ends the call.
abbrev pub IsTurn : Option (List ℕ) → Option (List ℕ) → LineBufState → LineBufState → Result (Option Line) FlowErr → Type 0
IsTurn left behind old new (Ok None) = HasTaken left behind old new × IsInLine (held new) × (old.taken < new.taken)
IsTurn left behind old new (Ok (Some line)) = IsNextLine left behind old new (Ok line)
IsTurn left behind old new (Err e) = IsNextLine left behind old new (Err e)
