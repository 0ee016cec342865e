-- The theory has its first literals and then those that the loop has passed, and they have a model.
use Rattle.std.proofs.Common.{◌≡◌, ◌++◌, take}
use Rattle.solve_theory.specs.Models.{HasModel}
use Rattle.solve_theory.proofs.probing.probe.Given as goal

abbrev pub invariant-loop-literal : goal.invariant-loop-literal
invariant-loop-literal g l = let theory = g.T.Theory in record {
  list : theory.literals l.theory ≡ theory.literals l.initial.theory ++ take l.literal-index l.literals;
  has_model : HasModel (theory.models l.theory) theory.meets (theory.literals l.theory);
  capacity : theory.capacity l.theory ≡ theory.capacity l.initial.theory;
  takes : theory.takes l.theory ≡ theory.takes l.initial.theory;
  core : l.core ≡ l.initial.core;
  models : theory.models l.theory ≡ theory.models l.initial.theory;
}
