use Rattle.std.proofs.Common.{length}
use Rattle.data_judge.proofs.faults.+values_fault.Given as goal

abbrev pub decreases-values_fault : goal.decreases-values_fault
decreases-values_fault l = length l.fields.now
