use Rattle.std.proofs.Common.{◌≡◌, ◌-◌, length}
use Rattle.solve_solver.specs.Assumed.{IsExtended}
use Rattle.solve_solver.proofs.learner.Learner.propagate.Given as goal

abbrev pub invariant-loop-literal : goal.invariant-loop-literal
invariant-loop-literal g l = record {
  kept : l.self ≡ l.initial.self;
  vars : l.trail.vars ≡ l.initial.trail.vars;
  extended : IsExtended l.initial.self.state.vars l.initial.self.state.clauses l.initial.trail.entries l.trail.entries;
}

abbrev pub decreases-loop-literal : goal.decreases-loop-literal
decreases-loop-literal g l = l.trail.vars - length l.trail.entries
