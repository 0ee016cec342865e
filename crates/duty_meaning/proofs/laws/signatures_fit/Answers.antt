use Rattle.duty_meaning.proofs.Fitting as fitting
use Rattle.duty_meaning.proofs.laws.signatures_fit.Goals as goal

pub returns : goal.returns
returns c = fitting.signatures_fit
