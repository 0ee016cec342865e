use Rattle.certify_atoms.proofs.ModelMeets.{models_columns}
use Rattle.certify_atoms.proofs.laws.models_have_columns.Goals as goal

pub returns : goal.returns
returns c = models_columns
