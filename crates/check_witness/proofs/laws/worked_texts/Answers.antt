use Rattle.check_witness.proofs.WorkedTexts.{texts}
use Rattle.check_witness.proofs.laws.worked_texts.Goals as goal

pub returns : goal.returns
returns c = texts
