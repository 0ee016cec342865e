use Rattle.app_store.proofs.OneStatus.{one-status}
use Rattle.app_store.proofs.laws.one_store_status.Goals as goal

pub returns : goal.returns
returns c = one-status
