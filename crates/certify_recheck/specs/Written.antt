-- How the lines of a certificate are written.
use Rattle.std.specs.Prelude.{◌≡◌, ℕ, ◌<◌, List, ◌∷◌, ◌++◌, codes}
use Rattle.std.specs.Fmt.{decimal}
use Rattle.certify_recheck.specs.Lines.{line_of, whole_lines}
use Rattle.certify_recheck.specs.declared.line.Line.{Line}
use Rattle.certify_recheck.specs.declared.line.Line.TheVariants.{Heading, Duty, Split, Clause, Theory, End, Other}

-- a word, and behind it a number
pub record IsWrittenWith (word : List ℕ) (n : ℕ) (bytes : List ℕ) : Type 0 where
  pub small : n < 2000000000
  pub is : bytes ≡ word ++ decimal n

-- the bytes that write a line, without its end
abbrev pub IsWritten : Line → List ℕ → Type 0
IsWritten Heading bytes = bytes ≡ codes "certificate 1"
IsWritten (Duty n) bytes = IsWrittenWith (codes "duty ") n bytes
IsWritten (Split v) bytes = IsWrittenWith (codes "split ") v bytes
IsWritten (Clause n) bytes = IsWrittenWith (codes "clause ") n bytes
IsWritten Theory bytes = bytes ≡ codes "theory"
IsWritten End bytes = bytes ≡ codes "end"
IsWritten Other bytes = ⊥

-- a line that is written, with its end, is read back, and what stands behind it is as it would be alone
pub record IsReadBack (l : Line) (bytes : List ℕ) : Type 0 where
  pub says : line_of bytes ≡ l
  pub is_first : (rest : List ℕ) → whole_lines (bytes ++ 10 ∷ rest) ≡ bytes ∷ whole_lines rest

abbrev pub WrittenLinesAreReadBack : Type 0
WrittenLinesAreReadBack = (l : Line) (bytes : List ℕ) → IsWritten l bytes → IsReadBack l bytes
