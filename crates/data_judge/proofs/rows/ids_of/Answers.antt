use Rattle.std.proofs.Common.{◌∙◌}
use Rattle.data_judge.proofs.InOrder.{rising-numbers}
use Rattle.data_judge.proofs.rows.ids_of.Goals as goal

pub returns-then-ids_rise : goal.returns-then-ids_rise
returns-then-ids_rise c = c.from_vec.ensures ∙ c.in_ok-numbers_in.ensures ∙ rising-numbers c.args.items.now (c.ids_rise.ensures c.if-ids_rise.true)
