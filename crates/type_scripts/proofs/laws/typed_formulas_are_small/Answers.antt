use Rattle.type_scripts.proofs.TypedObligations as obligations
use Rattle.type_scripts.proofs.laws.typed_formulas_are_small.Goals as goal

pub returns : goal.returns
returns c = obligations.typed_formulas_are_small
