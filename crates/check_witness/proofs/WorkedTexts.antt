-- The worked texts are what the definition gives.
use Rattle.std.proofs.Common.{refl}
use Rattle.std.specs.Fmt.{digits}
use Rattle.check_witness.specs.WorkedTexts.{WorkedTexts}

pub texts : WorkedTexts
unfolding digits
texts = record { of_gain = refl; of_model = refl; of_flow = refl }
