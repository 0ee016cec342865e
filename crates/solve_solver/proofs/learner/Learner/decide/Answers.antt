use Rattle.std.proofs.Common.{true, length, arith}
use Rattle.solve_solver.specs.declared.trail.Entry.{Entry}
use Rattle.solve_solver.specs.Assignment.{negated}
use Rattle.solve_solver.proofs.Problems.{ForcesMarked-after}
use Rattle.solve_solver.proofs.WorkLeft.{pushed_less, follow_less}
use Rattle.solve_solver.proofs.learner.Learner.decide.Goals as goal

pub returns-then-set-clause-less : goal.returns-then-set-clause-less
returns-then-set-clause-less g c =
    let old = c.args.self.now.state in
    let entry : Entry = record { literal = c.args.literal; decided = true } in
    let less = pushed_less old.vars entry old.entries c.set.ensures.room in
    rw (c.set.ensures.problem.vars, c.if-set.ensures.taken) (omega (arith, less))

pub conclude-requires-clause-forced : goal.conclude-requires-clause-forced
conclude-requires-clause-forced g c =
    let T = g.T.Theory in
    let old = c.args.self.now.state in
    let new = c.set.new.self in
    rw (c.opposite.ensures, c.if-set.ensures.refused)
    (ForcesMarked-after T.meets c.set.ensures.problem new.marks old.entries (negated c.args.literal) c.if-set.ensures.why)

pub returns-clause-less : goal.returns-clause-less
returns-clause-less g c =
    let old = c.args.self.now.state in
    let bound = rw (c.set.ensures.problem.vars, c.if-set.ensures.refused) at c.conclude.ensures.less in
    omega (arith, bound, follow_less old.vars (length old.entries) c.set.ensures.room)
