use Rattle.type_scripts.proofs.Obligations as obligations
use Rattle.type_scripts.proofs.laws.formulas_are_small.Goals as goal

pub returns : goal.returns
returns c = obligations.formulas_are_small
