use Rattle.std.proofs.Common.{take}
use Rattle.std.specs.List.{All}
use Rattle.certify_clauses.specs.Paths.{IsFalseOn}
use Rattle.certify_clauses.proofs.listed.are_false.Given as goal

abbrev pub invariant-loop-literal : goal.invariant-loop-literal
invariant-loop-literal l = All (IsFalseOn l.path.literals) (take l.literal-index l.clause)
