-- Where the first newline stands.
use Rattle.std.specs.Prelude.{◌≡◌, ℕ, ◌+◌, ◌<◌, List, ◌∷◌, drop, length, take}
use Rattle.door_lines.specs.Lines.{IsInLine}

-- Before the place no newline stands, and at it one does.
pub record IsFirstNewline (bytes : List ℕ) (at : ℕ) : Type 0 where
  pub within : at < length bytes
  pub before : IsInLine (take at bytes)
  pub stands : drop at bytes ≡ 10 ∷ drop (at + 1) bytes
