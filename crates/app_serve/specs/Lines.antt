-- The lines of an input.
use Rattle.std.specs.Prelude.{◌≡◌, ◌≢◌, ℕ, ◌==◌, nat_le, List, [], ◌∷◌, ◌++◌, length, Option, Some, IfSome, if◌then◌else◌}
use Rattle.door_lines.specs.Lines.{IsInLine}
use Rattle.door_meaning.specs.Step.{Line, Whole, Cut, most_line_bytes}

-- a byte before the first of the lines
abbrev pub with_first : ℕ → List (List ℕ) → List (List ℕ)
with_first b [] = (b ∷ []) ∷ []
with_first b (line ∷ lines) = (b ∷ line) ∷ lines

-- the lines of the bytes: each ends with the byte 10, which a last line may lack
abbrev pub lines_of : List ℕ → List (List ℕ)
lines_of [] = []
lines_of (b ∷ bytes) = if b == 10 then [] ∷ lines_of bytes else with_first b (lines_of bytes)

-- what the door reads of a line
abbrev pub read_as : List ℕ → Line
read_as line = if nat_le (length line) most_line_bytes then Whole line else Cut

-- The bytes are these lines, each with its end. One lacks it only at the end of the input, where that is told.
pub data AreLines (input : Option (List ℕ)) : (bytes : List ℕ) → (lines : List (List ℕ)) → Type 0 where
  NoLine : AreLines input [] []
  Ended : (bytes : List ℕ) (lines : List (List ℕ)) (line : List ℕ) → AreLines input bytes lines → IsInLine line
      → AreLines input (bytes ++ (line ++ 10 ∷ [])) (lines ++ line ∷ [])
  Last : (bytes : List ℕ) (lines : List (List ℕ)) (line : List ℕ) → AreLines input bytes lines → IsInLine line → line ≢ [] → IfSome input (λ all. all ≡ bytes ++ line)
      → AreLines input (bytes ++ line) (lines ++ line ∷ [])

-- the others begin with these
abbrev pub IsFrontOf : List (List ℕ) → List (List ℕ) → Type 0
IsFrontOf lines all = (more : List (List ℕ)) × (all ≡ lines ++ more)

-- Lines that told bytes begin with are the first ones of these bytes.
abbrev pub LinesAreFirst : Type 0
LinesAreFirst =
    (all bytes rest : List ℕ) (lines : List (List ℕ)) → AreLines (Some all) bytes lines → all ≡ bytes ++ rest → lines_of all ≡ lines ++ lines_of rest
