use Rattle.check_witness.proofs.Structures.{tell-the-truth}
use Rattle.check_witness.proofs.laws.built_databases_tell_the_truth.Goals as goal

pub returns : goal.returns
returns c = tell-the-truth
