-- What `Order` keeps.
use Rattle.std.specs.Prelude.{◌≡◌, ℕ, ◌-◌, ◌<◌, Bool, true, cond, List, length, take, ℤ, replicate}
use Rattle.solve_theory.specs.LitBuf.{LitList}
use Rattle.solve_order.specs.declared.diff.Diff.{Diff}
use Rattle.solve_order.specs.declared.frontier.Reach.{Reach}
use Rattle.solve_order.specs.Conflict.{IsConflict}
use Rattle.solve_order.specs.Difference.{Constraints}
use Rattle.solve_order.specs.Reach.{unreached}
use Rattle.solve_order.specs.Potential.{IsPotential}

-- the literals that the kept potential meets: all but the last one, where they were refuted
abbrev pub kept : Bool → List Diff → List Diff
kept refuted literals = cond refuted (take (length literals - 1) literals) literals

pub record IsOrder (constraints : Constraints) (values : List ℤ) (frontier : List Reach) (core : LitList ℕ) (refuted : Bool) : Type 0 where
  pub some : 0 < constraints.variables
  pub potential : IsPotential (record constraints { literals = kept refuted constraints.literals }) values
  pub conflict : refuted ≡ true → IsConflict constraints.literals constraints.variables core.items
  pub fresh : frontier ≡ replicate constraints.variables unreached
  pub room : core.capacity ≡ constraints.capacity
