-- The lines of a tree.
use Rattle.std.specs.Prelude.{◌≡◌, List, None}
use Rattle.certify_clauses.specs.declared.literal.Literal.{Literal}
use Rattle.certify_clauses.specs.Paths.{value_on}
use Rattle.certify_recheck.specs.declared.line.Line.{Line}
use Rattle.certify_recheck.specs.declared.line.Line.TheVariants.{Heading, Duty, Split, Clause, Theory, End, Other}

-- the line is one of a tree, and where it is a split, its variable is not on the path
abbrev pub IsOfTree : List Literal → Line → Type 0
IsOfTree path Heading = ⊥
IsOfTree path (Duty n) = ⊥
IsOfTree path (Split v) = value_on path v ≡ None
IsOfTree path (Clause n) = Unit {0}
IsOfTree path Theory = Unit {0}
IsOfTree path End = ⊥
IsOfTree path Other = ⊥
