use Rattle.std.proofs.Common.{length}
use Rattle.check_report_back.proofs.there.+is_among.Given as goal

abbrev pub decreases-is_among : goal.decreases-is_among
decreases-is_among l = length l.statics.now
