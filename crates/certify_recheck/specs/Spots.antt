-- Parts of certificates at places of a text.
use Rattle.std.specs.Prelude.{◌≡◌, ℕ, ◌+◌, ◌≤◌, List, [], ◌∷◌, ◌++◌, drop, length, take}
use Rattle.certify_clauses.specs.Problem.{Problem}
use Rattle.certify_clauses.specs.Trees.{Tree, IsLawful}
use Rattle.certify_recheck.specs.Due.{Due, part, AreDue, IsFirstBad, lines_of}
use Rattle.certify_recheck.specs.Lines.{line_of, lines_at, size_of_lines, whole_lines}
use Rattle.certify_recheck.specs.declared.fault.RecheckErr.{RecheckErr}
use Rattle.certify_recheck.specs.declared.fault.RecheckErr.TheVariants.{BadLine, OutOfMemory}
use Rattle.certify_recheck.specs.declared.line.Line.{Line}
use Rattle.certify_recheck.specs.declared.line.Line.TheVariants.{Duty}
use Rattle.certify_recheck.specs.declared.spot.Spot.{Spot}

module _ (text : List ℕ) (from : Spot) where
  -- so many lines stand between the two spots
  pub record Spans (count : ℕ) (to : Spot) : Type 0 where
    pub at : to.at ≡ from.at + size_of_lines (take count (whole_lines (drop from.at text)))
    pub line : to.line ≡ from.line + count

  -- the lines between the two spots are just what is due
  pub record Passes (ds : List Due) (to : Spot) : Type 0 where
    pub count : ℕ
    pub met : AreDue ds (lines_at text from.at) count
    pub spans : Spans count to

  -- the line of this number is the first that is not the next one of what is due
  pub record IsBadLine (ds : List Due) (line : ℕ) : Type 0 where
    pub count : ℕ
    pub bad : IsFirstBad ds (lines_at text from.at) count
    pub is : line ≡ from.line + count

  -- the first bad line has the number that a refusal names
  abbrev pub IsRefusal : List Due → RecheckErr → Type 0
  IsRefusal ds (BadLine line) = IsBadLine ds line
  IsRefusal ds OutOfMemory = Unit {0}

  module _ (c : Problem) (duty : ℕ) where
    -- between the two spots stand the line of the obligation and those of a lawful tree
    pub record IsPart (to : Spot) : Type 0 where
      pub tree : Tree
      pub lawful : IsLawful c [] tree
      pub rest : List Line
      pub lines_are : lines_at text from.at ≡ Duty duty ∷ (lines_of tree ++ rest)
      pub spans : Spans (length (lines_of tree) + 1) to

    -- the line of the number is bad where a part of the obligation is due, and no part of it stands there
    abbrev pub IsFault : RecheckErr → Type 0
    IsFault (BadLine line) = IsBadLine (part c duty ∷ []) line × ((to : Spot) → ¬ IsPart to)
    IsFault OutOfMemory = Unit {0}

-- the first line from a byte on, and where the next one begins
pub record IsRead (text : List ℕ) (at : ℕ) (line : Line) (next : ℕ) : Type 0 where
  pub bytes : List ℕ
  pub is_first : whole_lines (drop at text) ≡ bytes ∷ whole_lines (drop next text)
  pub says : line ≡ line_of bytes
  pub behind : next ≡ at + length bytes + 1
  pub within : next ≤ length text
