use Rattle.check_report_back.proofs.ReadBack.{witnesses-back}
use Rattle.check_report_back.proofs.laws.witnesses_come_back.Goals as goal

pub returns : goal.returns
returns c = witnesses-back
