use Rattle.std.proofs.Common.{length}
use Rattle.data_judge.proofs.limits.+without_slots.Given as goal

abbrev pub decreases-without_slots : goal.decreases-without_slots
decreases-without_slots l = length l.slots.now
