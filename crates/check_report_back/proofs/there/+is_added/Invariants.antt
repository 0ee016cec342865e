use Rattle.std.proofs.Common.{length}
use Rattle.check_report_back.proofs.there.+is_added.Given as goal

abbrev pub decreases-is_added : goal.decreases-is_added
decreases-is_added l = length l.commands.now
