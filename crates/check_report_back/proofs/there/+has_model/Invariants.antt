use Rattle.std.proofs.Common.{length}
use Rattle.check_report_back.proofs.there.+has_model.Given as goal

abbrev pub decreases-has_model : goal.decreases-has_model
decreases-has_model l = length l.models.now
