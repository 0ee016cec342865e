use Rattle.std.proofs.Common.{length}
use Rattle.data_judge.proofs.limits.+without_rows.Given as goal

abbrev pub decreases-without_rows : goal.decreases-without_rows
decreases-without_rows l = length l.tables.now
