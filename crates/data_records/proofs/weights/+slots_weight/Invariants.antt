use Rattle.std.proofs.Common.{length}
use Rattle.data_records.proofs.weights.+slots_weight.Given as goal

abbrev pub decreases-slots_weight : goal.decreases-slots_weight
decreases-slots_weight l = length l.slots.now
