use Rattle.std.proofs.Common.{length}
use Rattle.check_report_back.proofs.named.+static_of_name.Given as goal

abbrev pub decreases-static_of_name : goal.decreases-static_of_name
decreases-static_of_name l = length l.statics.now
