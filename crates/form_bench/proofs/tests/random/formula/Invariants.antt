use Rattle.std.proofs.Common.{◌≤◌, ◌+◌, ◌*◌, length}
use Rattle.form_formula.specs.Nodes.{IsFormula}
use Rattle.form_bench.proofs.tests.random.formula.Given as goal

abbrev pub invariant-loop-turn : goal.invariant-loop-turn
invariant-loop-turn l = IsFormula l.arena l.last × (length l.arena ≤ length l.fn.arena + 5 + 7 * l._turn)
