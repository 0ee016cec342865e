use Rattle.std.proofs.Common.{refl}
use Rattle.app_files.proofs.texts.checked.Goals as goal

pub returns-clause-checked : goal.returns-clause-checked
returns-clause-checked c = record { script = refl; typed = c.requires; outcome = c.in_ok-outcome.ensures }
