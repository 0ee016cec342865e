use Rattle.duty_meaning.proofs.Flows.{true_flows}
use Rattle.duty_meaning.proofs.laws.flow_formulas_are_true.Goals as goal

pub returns : goal.returns
returns c = true_flows
