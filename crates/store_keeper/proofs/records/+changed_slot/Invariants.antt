use Rattle.std.proofs.Common.{length}
use Rattle.store_keeper.proofs.records.+changed_slot.Given as goal

abbrev pub decreases-changed_slot : goal.decreases-changed_slot
decreases-changed_slot l = length l.old.now
