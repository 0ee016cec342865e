-- What contracts see of the adapters.
use Rattle.std.specs.Prelude.{ℕ}

-- a sink over a writer, and how many faults it counted
pub record StdSinkState (W : Type 0) : Type 0 where
  pub writer : W
  pub faults : ℕ

-- a shelf over a folder, and how many faults it counted
pub record DirShelfState (D : Type 0) : Type 0 where
  pub folder : D
  pub faults : ℕ
