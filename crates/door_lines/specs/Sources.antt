-- What contracts see of the sources.
use Rattle.std.specs.Prelude.{ℕ, List}

-- a source that fails on purpose: the bytes that are left, how many it gives at once, which calls fail, and how many calls and faults there were
pub record MemSourceState : Type 0 where
  pub left : List ℕ
  pub step : ℕ
  pub failing : List ℕ
  pub takes : ℕ
  pub faults : ℕ

-- a source over a reader, and how many faults it counted
pub record StdSourceState (R : Type 0) : Type 0 where
  pub reader : R
  pub faults : ℕ
