use Rattle.std.proofs.Common.{length}
use Rattle.check_report_back.proofs.there.+has_field.Given as goal

abbrev pub decreases-has_field : goal.decreases-has_field
decreases-has_field l = length l.models.now
