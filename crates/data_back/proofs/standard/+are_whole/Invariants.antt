use Rattle.std.proofs.Common.{length}
use Rattle.data_back.proofs.standard.+are_whole.Given as goal

abbrev pub decreases-are_whole : goal.decreases-are_whole
decreases-are_whole l = length l.models.now
