use Rattle.std.proofs.Common.{length}
use Rattle.data_members.proofs.finding.+reference_asked.Given as goal

abbrev pub decreases-reference_asked : goal.decreases-reference_asked
decreases-reference_asked l = length l.tests.now
