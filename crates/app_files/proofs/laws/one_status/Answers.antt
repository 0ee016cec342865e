use Rattle.app_files.proofs.OneStatus.{one-status}
use Rattle.app_files.proofs.laws.one_status.Goals as goal

pub returns : goal.returns
returns c = one-status
