use Rattle.std.proofs.Common.{◌*◌, ◌+◌}
use Rattle.decide_bench.proofs.smtlib.+formula.Given as goal

abbrev pub decreases-put_formula : goal.decreases-put_formula
decreases-put_formula l = 2 * l.id

abbrev pub decreases-put_quantified : goal.decreases-put_quantified
decreases-put_quantified l = 2 * l.id + 1
