use Rattle.std.proofs.Common.{length}
use Rattle.check_report_back.proofs.there.+has_number.Given as goal

abbrev pub decreases-has_number : goal.decreases-has_number
decreases-has_number l = length l.fields.now
