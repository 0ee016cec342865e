use Rattle.std.proofs.Common.{length}
use Rattle.app_files.proofs.users.+schema_after.Given as goal

abbrev pub decreases-schema_after : goal.decreases-schema_after
decreases-schema_after l = length l.commands.now
