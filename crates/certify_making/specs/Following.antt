-- Lines that are the next ones in their turn, and how many are left at most.
use Rattle.std.specs.Prelude.{◌≡◌, ℕ, zero, suc, ◌+◌, ◌-◌, ◌<◌, List, [], ◌∷◌, ◌++◌, All, length}
use Rattle.certify_clauses.specs.Problem.{Problem}
use Rattle.certify_clauses.specs.declared.literal.Literal.{Literal}
use Rattle.certify_recheck.specs.Due.{Due, IsNext, due_at, ending, heading, left_of, part, tree}
use Rattle.certify_recheck.specs.declared.line.Line.{Line}
use Rattle.certify_making.specs.Open.{HasAssignment}
use Rattle.certify_making.specs.declared.making.Went.{Went}
use Rattle.certify_making.specs.declared.making.Went.TheVariants.{On, Done, Open}
use Rattle.certify_making.specs.Texts.{IsSmall, text_of}

-- each line is the next one of what is due, and these are due behind the last
abbrev pub Follow : List Due → List Line → List Due → Type 0
Follow ds [] es = ds ≡ es
Follow [] (l ∷ ls) es = ⊥
Follow (d ∷ ds) (l ∷ ls) es = IsNext d l × Follow (left_of d l ++ ds) ls es

-- three to the power of a number
abbrev pub weight : ℕ → ℕ
weight zero = 1
weight (suc n) = weight n + (weight n + weight n)

-- more than the lines of any tree behind a path; and so of all that is due
abbrev pub work_of : ℕ → Due → ℕ
work_of vars heading = 1
work_of vars (part c duty) = 1
work_of vars (tree c path) = weight (vars - length path)
work_of vars ending = 1

abbrev pub work : ℕ → List Due → ℕ
work vars [] = 0
work vars (d ∷ ds) = work_of vars d + work vars ds

-- the text is that of some lines of a part, behind which these things are due
pub record IsBegun (c : Problem) (duty : ℕ) (text : List ℕ) (due : List Due) : Type 0 where
  pub lines : List Line
  pub is : text ≡ text_of lines
  pub small : All IsSmall lines
  pub follow : Follow (part c duty ∷ []) lines due

-- one line more was written, and less is left: all that is due behind it, or nothing is; or none was, and some assignment is lawful
pub record GoesOn (c : Problem) (duty : ℕ) (path new : List Literal) (old_text text : List ℕ) : Type 0 where
  pub begun : IsBegun c duty old_text (due_at c path) → IsBegun c duty text (due_at c new)
  pub less : work c.vars (due_at c new) < work c.vars (due_at c path)

abbrev pub HasGone : Problem → ℕ → List Literal → List Literal → List ℕ → List ℕ → Went → Type 0
HasGone c duty path new old_text text On = GoesOn c duty path new old_text text
HasGone c duty path new old_text text Done = IsBegun c duty old_text (due_at c path) → IsBegun c duty text []
HasGone c duty path new old_text text Open = HasAssignment c
