use Rattle.store_file.proofs.Untold.{any-found}
use Rattle.store_file.proofs.keeper.FileKeeperKeeper.load.Goals as goal

pub returns-clause-found : goal.returns-clause-found
returns-clause-found c = any-found c.counted.result
