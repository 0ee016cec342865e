use Rattle.std.proofs.Common.{length}
use Rattle.data_records.proofs.rows.+first_dangling.Given as goal

abbrev pub decreases-first_dangling : goal.decreases-first_dangling
decreases-first_dangling l = length l.row.now
