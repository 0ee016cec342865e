use Rattle.std.proofs.Common.{length}
use Rattle.check_report_back.proofs.named.+model_of_name.Given as goal

abbrev pub decreases-model_of_name : goal.decreases-model_of_name
decreases-model_of_name l = length l.models.now
