use Rattle.std.proofs.Common.{ap, ◌∙◌}
use Rattle.link_arena.specs.Lists.{is_linked}
use Rattle.online_queue.specs.Waiting.{Waiting, is_waiting}
use Rattle.online_queue.proofs.Soundness as s
use Rattle.online_queue.proofs.queue.Queue.has.Goals as goal

pub returns : goal.returns
returns c = c.is_linked.ensures ∙ (s.linked-waits _ _ _ c.self.invariant c.args.node ∙ ap (λ (w : Waiting). is_waiting w c.args.node) c.self.view_is)
