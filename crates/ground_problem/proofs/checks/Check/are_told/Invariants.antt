use Rattle.std.proofs.Common.{take, Contains}
use Rattle.ground_instances.specs.declared.input.Input.{Input}
use Rattle.ground_problem.specs.Inputs.{IsToldInput}
use Rattle.ground_problem.specs.Telling.{told_so_far}
use Rattle.ground_problem.proofs.checks.Check.are_told.Given as goal

abbrev pub invariant-loop-k : goal.invariant-loop-k
invariant-loop-k l =
    (i : Input) → Contains (take l.k l.inputs) i → IsToldInput l.self.signature.now (told_so_far l.self.terms.now l.self.telling.now) l.self.arena.now l.self.terms.now i
