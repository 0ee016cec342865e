use Rattle.std.proofs.Common.{sym}
use Rattle.data_judge.proofs.InOrder.{rising-sound}
use Rattle.data_judge.proofs.faults.items_fault.Goals as goal

pub returns-then-ids_rise : goal.returns-then-ids_rise
returns-then-ids_rise c = sym (rising-sound c.args.items.now (c.ids_rise.ensures c.if-ids_rise.true))
