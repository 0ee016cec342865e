-- Parts of a certificate that follow one another.
use Rattle.std.specs.Prelude.{ℕ, List, ◌++◌}
use Rattle.certify_recheck.specs.Due.{Due}
use Rattle.certify_recheck.specs.Spots.{IsBadLine, Passes}
use Rattle.certify_recheck.specs.declared.spot.Spot.{Spot}

-- where one thing stands, and then another, both stand; a line that is bad for the one, or behind it for the other, is bad for both
pub record IsFollowing (text : List ℕ) (from mid : Spot) (ds es : List Due) : Type 0 where
  pub passes : Passes text from ds mid → (to : Spot) → Passes text mid es to → Passes text from (ds ++ es) to
  pub bad : Passes text from ds mid → (line : ℕ) → IsBadLine text mid es line → IsBadLine text from (ds ++ es) line
  pub bad_first : (line : ℕ) → IsBadLine text from ds line → IsBadLine text from (ds ++ es) line

abbrev pub PartsFollow : Type 0
PartsFollow = (text : List ℕ) (from mid : Spot) (ds es : List Due) → IsFollowing text from mid ds es
