use Rattle.std.proofs.Common.{length}
use Rattle.data_judge.proofs.limits.+without_tables.Given as goal

abbrev pub decreases-without_tables : goal.decreases-without_tables
decreases-without_tables l = length l.tables.now
