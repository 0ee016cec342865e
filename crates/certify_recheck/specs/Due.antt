-- What is due in a certificate, line by line.
use Rattle.std.specs.Prelude.{◌≡◌, ℕ, zero, suc, List, [], ◌∷◌, ◌++◌, map}
use Rattle.certify_clauses.specs.declared.literal.Literal.{Literal}
use Rattle.certify_clauses.specs.Paths.{positive, negative, pending}
use Rattle.certify_clauses.specs.Problem.{Problem}
use Rattle.certify_clauses.specs.Trees.{Tree, split, clause, theory, IsLawfulSplit, IsFalseClause, IsWithoutModel}
use Rattle.certify_recheck.specs.declared.line.Line.{Line}
use Rattle.certify_recheck.specs.declared.line.Line.TheVariants.{Heading, Duty, Split, Clause, Theory, End, Other}

-- the first line; the part of an obligation over its clauses; a tree over clauses behind a path; the last line
pub data Due : Type 0 where
  heading : Due
  part : (c : Problem) (duty : ℕ) → Due
  tree : (c : Problem) (path : List Literal) → Due
  ending : Due

-- the line is the next one of what is due: it is a first line, that of the obligation, lawful where it stands in the tree, or a last line
abbrev pub IsNext : Due → Line → Type 0
IsNext heading Heading = Unit {0}
IsNext heading (Duty n) = ⊥
IsNext heading (Split v) = ⊥
IsNext heading (Clause n) = ⊥
IsNext heading Theory = ⊥
IsNext heading End = ⊥
IsNext heading Other = ⊥
IsNext (part c duty) Heading = ⊥
IsNext (part c duty) (Duty n) = n ≡ duty
IsNext (part c duty) (Split v) = ⊥
IsNext (part c duty) (Clause n) = ⊥
IsNext (part c duty) Theory = ⊥
IsNext (part c duty) End = ⊥
IsNext (part c duty) Other = ⊥
IsNext (tree c path) Heading = ⊥
IsNext (tree c path) (Duty n) = ⊥
IsNext (tree c path) (Split v) = IsLawfulSplit c path v
IsNext (tree c path) (Clause n) = IsFalseClause c path n
IsNext (tree c path) Theory = IsWithoutModel c path
IsNext (tree c path) End = ⊥
IsNext (tree c path) Other = ⊥
IsNext ending Heading = ⊥
IsNext ending (Duty n) = ⊥
IsNext ending (Split v) = ⊥
IsNext ending (Clause n) = ⊥
IsNext ending Theory = ⊥
IsNext ending End = Unit {0}
IsNext ending Other = ⊥

-- what a line leaves due of a tree: behind a split, one where the variable is true and one where it is false
abbrev pub branches : Problem → List Literal → Line → List Due
branches c path Heading = []
branches c path (Duty n) = []
branches c path (Split v) = tree c (path ++ positive v ∷ []) ∷ tree c (path ++ negative v ∷ []) ∷ []
branches c path (Clause n) = []
branches c path Theory = []
branches c path End = []
branches c path Other = []

-- and of anything: behind the line of an obligation, a tree
abbrev pub left_of : Due → Line → List Due
left_of heading l = []
left_of (part c duty) l = tree c [] ∷ []
left_of (tree c path) l = branches c path l
left_of ending l = []

-- the first so many lines are just what is due, in order
abbrev pub AreDue : List Due → List Line → ℕ → Type 0
AreDue [] ls zero = Unit {0}
AreDue [] ls (suc n) = ⊥
AreDue (d ∷ ds) [] n = ⊥
AreDue (d ∷ ds) (l ∷ ls) zero = ⊥
AreDue (d ∷ ds) (l ∷ ls) (suc n) = IsNext d l × AreDue (left_of d l ++ ds) ls n

-- so many lines are the next ones in their turn; then something is due, and there is no line or one that is not the next
abbrev pub IsFirstBad : List Due → List Line → ℕ → Type 0
IsFirstBad [] ls n = ⊥
IsFirstBad (d ∷ ds) [] zero = Unit {0}
IsFirstBad (d ∷ ds) [] (suc n) = ⊥
IsFirstBad (d ∷ ds) (l ∷ ls) zero = ¬ IsNext d l
IsFirstBad (d ∷ ds) (l ∷ ls) (suc n) = IsNext d l × IsFirstBad (left_of d l ++ ds) ls n

-- the lines of a tree
abbrev pub lines_of : Tree → List Line
lines_of (split v t u) = Split v ∷ (lines_of t ++ lines_of u)
lines_of (clause n) = Clause n ∷ []
lines_of theory = Theory ∷ []

-- the trees that a path leaves for later, and all that are due at a path
abbrev pub later : Problem → List Literal → List Due
later c path = map (tree c) (pending path)

abbrev pub due_at : Problem → List Literal → List Due
due_at c path = tree c path ∷ later c path
