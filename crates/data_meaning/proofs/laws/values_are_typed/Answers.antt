use Rattle.data_meaning.proofs.Soundness.{values-typed}
use Rattle.data_meaning.proofs.laws.values_are_typed.Goals as goal

pub returns : goal.returns
returns c = values-typed
