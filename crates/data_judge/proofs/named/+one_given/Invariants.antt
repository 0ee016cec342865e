use Rattle.std.proofs.Common.{length}
use Rattle.data_judge.proofs.named.+one_given.Given as goal

abbrev pub decreases-one_given : goal.decreases-one_given
decreases-one_given l = length l.ws.now
