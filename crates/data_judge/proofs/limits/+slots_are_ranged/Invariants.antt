use Rattle.std.proofs.Common.{length}
use Rattle.data_judge.proofs.limits.+slots_are_ranged.Given as goal

abbrev pub decreases-slots_are_ranged : goal.decreases-slots_are_ranged
decreases-slots_are_ranged l = length l.slots.now
