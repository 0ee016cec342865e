-- What a certificate's parts are.
use Rattle.std.specs.Prelude.{◌≡◌, ℕ, ◌↔◌, List, [], ◌∷◌, ◌++◌, ◌+◌, length}
use Rattle.certify_clauses.specs.Problem.{Problem}
use Rattle.certify_clauses.specs.Trees.{Tree, IsLawful}
use Rattle.certify_recheck.specs.Due.{AreDue, IsFirstBad, Due, lines_of, part}
use Rattle.certify_recheck.specs.declared.line.Line.{Line}
use Rattle.certify_recheck.specs.declared.line.Line.TheVariants.{Duty}

-- the first lines are those of an obligation and of a lawful tree
pub record IsLawfulPart (c : Problem) (duty : ℕ) (ls : List Line) (n : ℕ) : Type 0 where
  pub tree : Tree
  pub lawful : IsLawful c [] tree
  pub rest : List Line
  pub lines_are : ls ≡ Duty duty ∷ (lines_of tree ++ rest)
  pub count : n ≡ length (lines_of tree) + 1

-- the first lines are just what is due where a part is, exactly where they are those of the obligation and of a lawful tree
abbrev pub PartsAreLawfulTrees : Type 0
PartsAreLawfulTrees = (c : Problem) (duty : ℕ) (ls : List Line) (n : ℕ) → AreDue (part c duty ∷ []) ls n ↔ IsLawfulPart c duty ls n

-- lines that are just what is due have no bad one among them
abbrev pub OneAnswer : Type 0
OneAnswer = (ds : List Due) (ls : List Line) (m n : ℕ) → AreDue ds ls m → IsFirstBad ds ls n → ⊥
