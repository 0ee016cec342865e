-- What the procedures were told of what holds.
use Rattle.std.specs.Prelude.{◌≡◌, ℕ, ◌≤◌, Bool, List}
use Rattle.certify_clauses.specs.PathView.{PathView}
use Rattle.certify_clauses.specs.Problem.{Columns, Problem, Said}
use Rattle.certify_recheck.specs.Walking.{IsReady}

-- the path is over the problem's variables, the procedures were told its front, and there is room for why it has no model
pub record IsKept (c : Problem) (path : PathView) (told : ℕ) (literals : List Said) (capacity : ℕ) (takes : Said → Bool) (models : Columns → Bool) (meets : Columns → Said → Bool) (room : ℕ) : Type 0 where
  pub vars : path.vars ≡ c.vars
  pub ready : IsReady c path.literals told literals capacity takes models meets
  pub roomy : c.vars ≤ room
