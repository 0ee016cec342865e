use Rattle.std.proofs.Common.{length, ap, ◌∙◌}
use Rattle.online_queue.specs.Waiting.{Waiting}
use Rattle.online_queue.proofs.Soundness as s
use Rattle.online_queue.proofs.queue.Queue.len.Goals as goal

pub returns : goal.returns
returns c = s.long-as _ _ _ c.self.invariant ∙ ap (λ (w : Waiting). length w.queue) c.self.view_is
