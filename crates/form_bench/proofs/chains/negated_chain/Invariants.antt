use Rattle.std.proofs.Common.{◌≤◌, ◌+◌, ◌*◌, length}
use Rattle.form_formula.specs.Nodes.{IsFormula}
use Rattle.form_bench.proofs.chains.negated_chain.Given as goal

abbrev pub invariant-loop-turn : goal.invariant-loop-turn
invariant-loop-turn l = IsFormula l.arena l.chain × (length l.arena ≤ 1 + 5 * l.turn)
