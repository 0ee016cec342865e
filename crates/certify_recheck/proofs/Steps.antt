-- What a line does to a path.
use Rattle.std.proofs.Common.{◌≡◌, ℕ, ◌<◌, List, [], ◌∷◌, ◌++◌, None, map, sym, ◌∙◌, ap, refl}
use Rattle.certify_clauses.specs.declared.literal.Literal.{Literal}
use Rattle.certify_clauses.specs.Paths.{positive, value_on}
use Rattle.certify_clauses.specs.Problem.{Problem}
use Rattle.certify_clauses.proofs.Pending.{pending-positive}
use Rattle.certify_recheck.specs.Due.{IsNext, branches, due_at, later, tree}
use Rattle.certify_recheck.specs.Walking.{IsClosed, IsStep}
use Rattle.certify_recheck.specs.declared.line.Line.{Line}
use Rattle.certify_recheck.specs.declared.line.Line.TheVariants.{Split}
use Rattle.certify_recheck.specs.declared.walk.Step.{Step}
use Rattle.certify_recheck.specs.declared.walk.Step.TheVariants.{Bad, More, Done}

-- a split goes on where the variable is true
pub split_step : (c : Problem) (path new : List Literal) (v : ℕ) → v < c.vars → value_on path v ≡ None → new ≡ path ++ positive v ∷ [] → IsStep c path (Split v) new More
split_step c path new v there fresh e = (
  record { there = there; fresh = fresh },
  ap (due_at c) e ∙ ap (λ ps. tree c (path ++ positive v ∷ []) ∷ map (tree c) ps) (pending-positive path (positive v) refl),
)

-- a leaf goes on with what is left
pub closed_step : (c : Problem) (path new : List Literal) (l : Line) (step : Step) → IsNext (tree c path) l → branches c path l ≡ [] → IsClosed path new step → IsStep c path l new step
closed_step c path new l Bad next none closed = absurd closed
closed_step c path new l More next none closed = (next, sym (ap (λ ds. ds ++ later c path) none ∙ ap (map (tree c)) closed))
closed_step c path new l Done next none closed = (next, ap (λ ds. ds ++ later c path) none ∙ ap (map (tree c)) closed)
