use Rattle.std.proofs.Common.{◌<◌, length, ap, ◌∙◌, arith, rules}
use Rattle.std.specs.Prelude.{None, slice_set}
use Rattle.online_queue.specs.Waiting.{Waiting}
use Rattle.online_queue.proofs.Soundness as s
use Rattle.std.proofs.lemmas.List.{length-set}
use Rattle.online_queue.proofs.queue.Queue.free.Goals as goal

pub index_mut-requires : goal.index_mut-requires
index_mut-requires c =
    let it = s.freed _ _ _ c.self.invariant c.args.self.now c.args.node c.requires c.unmark.new.self c.unmark.ensures c.self.view_is in
    let below : c.args.node < length c.self.inside.names.items = it.2 in
    let ok = c.self.inside.names.ok in
    first_of (omega (arith, below, ok), search rules)

pub invariant_of-self : goal.invariant_of-self
invariant_of-self c =
    let it = s.freed _ _ _ c.self.invariant c.args.self.now c.args.node c.requires c.unmark.new.self c.unmark.ensures c.self.view_is in
    s.sound-names _ _ _ c.self.invariant (slice_set c.self.inside.names.items c.args.node None) (length-set c.self.inside.names.items c.args.node None)
    (s.apart-freed _ _ _ c.self.invariant c.args.node it.1 it.2) (s.name-freed _ _ _ c.self.invariant c.args.node it.1)

pub returns : goal.returns
returns c r at =
    let it = s.freed _ _ _ c.self.invariant c.args.self.now c.args.node c.requires c.unmark.new.self c.unmark.ensures c.self.view_is in
    s.seen-freed _ _ _ c.self.invariant c.args.node it.1
    ∙ ap (λ (w : Waiting). let v : Waiting = record { names = slice_set w.names c.args.node None; queue = w.queue } in v) (c.self.view_is ∙ c.unmark.ensures r at)
