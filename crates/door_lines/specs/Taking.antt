-- What bytes a call appended to others.
use Rattle.std.specs.Prelude.{◌≡◌, ℕ, List, ◌++◌, length, Option}
use Rattle.std.specs.Io.KnownBytes.{Consumes}

-- So many bytes were taken, and stand behind those that were there.
pub record HasCome (old new : Option (List ℕ)) (before after : List ℕ) (n : ℕ) : Type 0 where
  pub piece : List ℕ
  pub consumed : Consumes old new piece
  pub appended : after ≡ before ++ piece
  pub size : length piece ≡ n
