use Rattle.std.proofs.Common.{length}
use Rattle.data_records.proofs.index.Index.+note_all.Given as goal

abbrev pub decreases-note_all : goal.decreases-note_all
decreases-note_all l = length l.slots.now
