-- What contracts see of the sinks in memory.
use Rattle.std.specs.Prelude.{◌≡◌, ◌⊎◌, ℕ, ◌+◌, ◌-◌, nat_le, min, List, length, ◌++◌, Contains, Option, None, Some, if◌then◌else◌}

-- a sink that fails on purpose: its bytes, how many it holds at most and takes at once, which calls fail, and how many calls and faults there were
pub record MemSinkState : Type 0 where
  pub bytes : List ℕ
  pub room : ℕ
  pub step : ℕ
  pub failing : List ℕ
  pub puts : ℕ
  pub faults : ℕ

-- the next put fails: its number is listed, or no room is left
abbrev pub FailsNext : MemSinkState → Type 0
FailsNext sink = Contains sink.failing sink.puts ⊎ (length sink.bytes ≡ sink.room)

-- how many bytes of a piece of this length are taken at once
abbrev pub taken_of : MemSinkState → ℕ → ℕ
taken_of sink len = min (min len sink.step) (sink.room - length sink.bytes)

-- a sink that never fails: what it tells, and how many bytes it can tell at most
pub record SureSinkState : Type 0 where
  pub told : Option (List ℕ)
  pub room : ℕ

-- what is told once the bytes came, as long as there is room for them
abbrev pub told_after : ℕ → Option (List ℕ) → List ℕ → Option (List ℕ)
told_after room None bytes = None
told_after room (Some before) bytes = if nat_le (length before + length bytes) room then Some (before ++ bytes) else None
