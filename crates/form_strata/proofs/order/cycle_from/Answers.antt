use Rattle.form_strata.proofs.OrderLemmas.{turn_step, turn_end}
use Rattle.form_strata.proofs.order.cycle_from.Goals as goal

pub returns-then-v-from : goal.returns-then-v-from
returns-then-v-from c graph path there leads =
    turn_end graph c.args.from c.in-Some.v c.loop-v.path.items c.pop.new.self.items c.loop-v.cycle.items c.push.new.self.items c.in-Some.ensures.items
    c.in_ok-push.ensures.items c.if-v-from.true (c.loop-v.invariant graph path there leads)

pub loop-v-preserved : goal.loop-v-preserved
loop-v-preserved c graph path there leads =
    turn_step graph c.args.from c.in-Some.v c.loop-v.path.items c.pop.new.self.items c.loop-v.cycle.items c.push.new.self.items c.in-Some.ensures.items
    c.in_ok-push.ensures.items c.if-v-from.false (c.loop-v.invariant graph path there leads)
