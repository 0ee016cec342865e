use Rattle.std.proofs.Common.{refl}
use Rattle.store_file.proofs.Untold.{any-done, any-kept}
use Rattle.store_file.proofs.keeper.FileKeeperKeeper.put.Goals as goal

pub returns-clause-done : goal.returns-clause-done
returns-clause-done c = any-done c.counted.result _ refl

pub returns-clause-kept : goal.returns-clause-kept
returns-clause-kept c = any-kept c.counted.result _ refl
