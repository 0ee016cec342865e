-- The texts of certificates.
use Rattle.std.specs.Prelude.{◌≡◌, ℕ, ◌<◌, List, [], ◌∷◌, ◌++◌, All, codes}
use Rattle.std.specs.Fmt.{decimal}
use Rattle.certify_clauses.specs.Problem.{Problem}
use Rattle.certify_clauses.specs.Trees.{IsLawful, Tree}
use Rattle.certify_recheck.specs.Due.{lines_of}
use Rattle.certify_recheck.specs.declared.line.Line.{Line}
use Rattle.certify_recheck.specs.declared.line.Line.TheVariants.{Heading, Duty, Split, Clause, Theory, End, Other}

-- the bytes of a line, without its end
abbrev pub bytes_of : Line → List ℕ
bytes_of Heading = codes "certificate 1"
bytes_of (Duty n) = codes "duty " ++ decimal n
bytes_of (Split v) = codes "split " ++ decimal v
bytes_of (Clause n) = codes "clause " ++ decimal n
bytes_of Theory = codes "theory"
bytes_of End = codes "end"
bytes_of Other = []

-- lines, each with its end
abbrev pub text_of : List Line → List ℕ
text_of [] = []
text_of (l ∷ ls) = bytes_of l ++ 10 ∷ text_of ls

-- the line is one that can be written: its number, if it has one, is not too large
abbrev pub IsSmall : Line → Type 0
IsSmall Heading = Unit {0}
IsSmall (Duty n) = n < 2000000000
IsSmall (Split v) = v < 2000000000
IsSmall (Clause n) = n < 2000000000
IsSmall Theory = Unit {0}
IsSmall End = Unit {0}
IsSmall Other = ⊥

-- the text is that of the line of an obligation and of those of a lawful tree over its clauses
pub record IsPartText (c : Problem) (duty : ℕ) (text : List ℕ) : Type 0 where
  pub tree : Tree
  pub lawful : IsLawful c [] tree
  pub small : All IsSmall (Duty duty ∷ lines_of tree)
  pub is : text ≡ text_of (Duty duty ∷ lines_of tree)
