use Rattle.std.proofs.Common.{length}
use Rattle.data_records.proofs.index.Index.+forget_all.Given as goal

abbrev pub decreases-forget_all : goal.decreases-forget_all
decreases-forget_all l = length l.slots.now
