use Rattle.std.proofs.Common.{List, ap, ◌∙◌, subst}
use Rattle.std.specs.Prelude.{Option, Some, slice_set}
use Rattle.online_queue.specs.declared.records.RecordId.{RecordId}
use Rattle.online_queue.specs.Waiting.{Waiting}
use Rattle.online_queue.proofs.Soundness as s
use Rattle.online_queue.specs.Sound.{Takes}
use Rattle.online_queue.proofs.queue.Queue.take.Goals as goal

pub returns-clause-ok : goal.returns-clause-ok
returns-clause-ok c =
    let takes = subst (λ (ns : List (Option RecordId)). Takes ns c.args.name c.in-Some.node) c.as_slice.ensures.value c.in-Some.ensures in
    s.seen-taken _ _ _ c.self.invariant c.args.name c.in-Some.node takes
    ∙ ap (λ (w : Waiting). let v : Waiting = record { names = slice_set w.names c.in-Some.node (Some c.args.name); queue = w.queue } in v) c.self.view_is
