-- How often initialisers were evaluated.
use Rattle.std.specs.Prelude.{ℕ, ◌+◌, nat_lt, if◌then◌else◌}

-- one more, up to the end of 64 bits
abbrev pub risen : ℕ → ℕ
risen n = if nat_lt n 18446744073709551615 then n + 1 else n
