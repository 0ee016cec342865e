use Rattle.std.proofs.Common.{List, drop, ap, ◌∙◌}
use Rattle.online_queue.specs.declared.records.RecordId.{RecordId}
use Rattle.online_queue.specs.Waiting.{Waiting}
use Rattle.std.proofs.lemmas.List.{drop-drop}
use Rattle.online_queue.proofs.queue.Queue.drop_first.Goals as goal

pub loop-turn-preserved : goal.loop-turn-preserved
loop-turn-preserved c =
    c.drop_one.ensures ∙ (ap (λ (w : Waiting). let v : Waiting = record { names = w.names; queue = drop 1 w.queue } in v) c.loop-turn.invariant
    ∙ ap (λ (q : List RecordId). let v : Waiting = record { names = c.args.self.now.names; queue = q } in v) (drop-drop 1 c.loop-turn._turn c.args.self.now.queue))
