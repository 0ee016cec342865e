use Rattle.check_report_back.proofs.InOrder.{in-order}
use Rattle.check_report_back.proofs.told_laws.built_stand_in_order.Goals as goal

pub returns : goal.returns
returns c = in-order
