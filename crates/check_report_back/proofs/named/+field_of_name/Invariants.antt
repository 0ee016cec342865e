use Rattle.std.proofs.Common.{length}
use Rattle.check_report_back.proofs.named.+field_of_name.Given as goal

abbrev pub decreases-field_of_name : goal.decreases-field_of_name
decreases-field_of_name l = length l.fields.now
