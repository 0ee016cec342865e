use Rattle.std.proofs.Common.{length}
use Rattle.data_records.proofs.weights.+without_row.Given as goal

abbrev pub decreases-without_row : goal.decreases-without_row
decreases-without_row l = length l.row.now
