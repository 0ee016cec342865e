use Rattle.std.proofs.Common.{ap, length, arith}
use Rattle.std.proofs.lemmas.List.{length-map}
use Rattle.std.proofs.lemmas.List.Elements.{All-map}
use Rattle.solve_solver.specs.Clauses.{IsWithin}
use Rattle.solve_solver.proofs.solver.Solver.new.Goals as goal

pub with_clauses-requires-clause-within : goal.with_clauses-requires-clause-within
with_clauses-requires-clause-within g c = rw c.in_ok-clauses.ensures (All-map (IsWithin c.args.vars) _ c.args.clauses.now c.requires.within)

pub with_clauses-requires-clause-few_clauses : goal.with_clauses-requires-clause-few_clauses
with_clauses-requires-clause-few_clauses g c = omega (arith, ap length c.in_ok-clauses.ensures, length-map c.args.clauses.now (λ list. list.items), c.requires.few_clauses)
