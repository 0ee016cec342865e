use Rattle.check_report_back.proofs.WitnessCuts.{texts-tell}
use Rattle.check_report_back.proofs.told_laws.witness_texts_tell.Goals as goal

pub returns : goal.returns
returns c = texts-tell
