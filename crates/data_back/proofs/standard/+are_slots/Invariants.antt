use Rattle.std.proofs.Common.{length}
use Rattle.data_back.proofs.standard.+are_slots.Given as goal

abbrev pub decreases-are_slots : goal.decreases-are_slots
decreases-are_slots l = length l.fields.now
