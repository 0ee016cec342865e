-- Atoms, as they are put into memory.
use Rattle.std.specs.Prelude.{◌≡◌, ℕ, List, ◌++◌, Option, None, length, replicate}
use Rattle.certify_atoms.specs.Atoms.{Both}

-- variables that say nothing were put behind, so that there are so many
pub record IsPadded (count : ℕ) (old new : List (Option Both)) : Type 0 where
  pub gap : ℕ
  pub whole : new ≡ old ++ replicate gap None
  pub long : length new ≡ count
