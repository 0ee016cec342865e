use Rattle.std.proofs.Common.{◌≡◌, drop}
use Rattle.online_queue.proofs.queue.Queue.drop_first.Given as goal

abbrev pub invariant-loop-turn : goal.invariant-loop-turn
invariant-loop-turn l = l.self ≡ record { names = l.fn.self.names; queue = drop l._turn l.fn.self.queue }
