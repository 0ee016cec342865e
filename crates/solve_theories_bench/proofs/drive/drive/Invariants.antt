-- What is asserted has a model, and is no more than what the loop has passed.
use Rattle.std.proofs.Common.{◌≡◌, ◌≤◌, length}
use Rattle.solve_theory.specs.Models.{HasModel}
use Rattle.solve_theories_bench.proofs.drive.drive.Given as goal

abbrev pub invariant-loop-literal : goal.invariant-loop-literal
invariant-loop-literal g l = let theory = g.T.Theory in record {
  has_model : HasModel (theory.models l.theory) theory.meets (theory.literals l.theory);
  few : length (theory.literals l.theory) ≤ l.literal-index;
  conflicts : l.conflicts ≤ l.literal-index;
  capacity : theory.capacity l.theory ≡ theory.capacity l.initial.theory;
  takes : theory.takes l.theory ≡ theory.takes l.initial.theory;
  models : theory.models l.theory ≡ theory.models l.initial.theory;
  core : l.core.capacity ≡ l.initial.core.capacity;
}
