use Rattle.std.proofs.Common.{◌*◌, ◌+◌}
use Rattle.decide_random_tests.proofs.tests.writer.Writer.+formula.Given as goal

abbrev pub decreases-formula : goal.decreases-formula
decreases-formula l = 2 * l.levels

abbrev pub decreases-quantified : goal.decreases-quantified
decreases-quantified l = 2 * l.levels + 1
