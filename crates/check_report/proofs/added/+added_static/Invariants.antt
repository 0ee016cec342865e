use Rattle.std.proofs.Common.{length}
use Rattle.check_report.proofs.added.+added_static.Given as goal

abbrev pub decreases-added_static : goal.decreases-added_static
decreases-added_static l = length l.commands.now
