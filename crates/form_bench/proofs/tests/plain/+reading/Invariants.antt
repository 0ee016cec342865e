use Rattle.std.proofs.Common.{◌*◌, ◌+◌}
use Rattle.form_bench.proofs.tests.plain.+reading.Given as goal

abbrev pub decreases-is_true : goal.decreases-is_true
decreases-is_true l = 2 * l.id

abbrev pub decreases-quantified : goal.decreases-quantified
decreases-quantified l = 2 * l.id + 1
