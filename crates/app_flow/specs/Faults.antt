-- Counts of the faults that an outside object has met, and of its calls.
use Rattle.std.specs.Prelude.{◌≡◌, ◌⊎◌, ℕ, ◌+◌, ◌<◌, min}

-- a count stands still at its type's end
abbrev pub next_count : ℕ → ℕ
next_count count = min (count + 1) 18446744073709551615

-- the count rose, or stood at its type's end
abbrev pub Rose : ℕ → ℕ → Type 0
Rose old new = (old < new) ⊎ (old ≡ 18446744073709551615)
