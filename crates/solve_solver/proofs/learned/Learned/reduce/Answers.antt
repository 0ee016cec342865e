use Rattle.std.proofs.Common.{subst}
use Rattle.std.specs.List.{All, Contains}
use Rattle.solve_solver.specs.Learned.{LearnedView, learned_list}
use Rattle.solve_solver.proofs.learned.Learned.reduce.Goals as goal

pub returns-clause-fewer : goal.returns-clause-fewer
returns-clause-fewer c =
    rw c.swap.ensures.x_after
    (subst (λ (v : LearnedView). All (Contains (learned_list v)) c.keep_active.new.to.list) c.self.view_is c.keep_active.ensures.contained)
