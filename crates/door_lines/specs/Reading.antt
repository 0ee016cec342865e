-- What reading does to a source.
use Rattle.std.specs.Prelude.{◌≡◌, ℕ, ◌<◌, List, [], length, ⊤, Option, IfSome}
use Rattle.std.specs.Io.KnownBytes.{Consumes}
use Rattle.door_lines.specs.declared.source.FlowErr.{FlowErr}
use Rattle.door_lines.specs.declared.source.FlowErr.TheVariants.{ReadFault, TooLong, Budget, OutOfMemory}

-- Bytes were taken from the front of what was left, any number of them.
abbrev pub IsReadOn : Option (List ℕ) → Option (List ℕ) → Type 0
IsReadOn old new = (bytes : List ℕ) × Consumes old new bytes

-- These are all bytes that were left.
abbrev pub IsWhole : Option (List ℕ) → List ℕ → Type 0
IsWhole old bytes = IfSome old (λ left. left ≡ bytes)

-- Why not all bytes that were left were given: a fault was counted, or they are more than the limit, or want of memory.
abbrev pub StopsReading : Type 0 → Option (List ℕ) → ℕ → FlowErr → Type 0
StopsReading rose old limit ReadFault = rose
StopsReading rose old limit (TooLong most) = (most ≡ limit) × IfSome old (λ left. limit < length left)
StopsReading rose old limit Budget = ⊥
StopsReading rose old limit OutOfMemory = ⊤
