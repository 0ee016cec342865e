use Rattle.std.proofs.Common.{◌≡◌, replicate, ap, ◌∙◌, arith}
use Rattle.std.specs.Prelude.{None}
use Rattle.online_queue.proofs.Soundness as s
use Rattle.online_queue.proofs.queue.Queue.new.Goals as goal

pub invariant_of-result : goal.invariant_of-result
invariant_of-result c =
    let all : c.loop-node._node ≡ c.args.nodes = omega arith in
    s.sound-new _ _ c.args.nodes c.requires (c.loop-node.invariant ∙ ap (λ n. replicate n None) all) c.in_ok-new.ensures
