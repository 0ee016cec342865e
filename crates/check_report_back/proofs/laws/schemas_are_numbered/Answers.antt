use Rattle.check_report_back.proofs.ReadBack.{schemas-numbered}
use Rattle.check_report_back.proofs.laws.schemas_are_numbered.Goals as goal

pub returns : goal.returns
returns c = schemas-numbered
