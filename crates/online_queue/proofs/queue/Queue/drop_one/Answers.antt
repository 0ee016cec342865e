use Rattle.std.proofs.Common.{◌≡◌, List, drop, ap, sym, ◌∙◌, subst}
use Rattle.link_arena.specs.Lists.{Lists}
use Rattle.online_queue.specs.declared.records.RecordId.{RecordId}
use Rattle.online_queue.specs.Waiting.{Waiting}
use Rattle.online_queue.proofs.Soundness as s
use Rattle.online_queue.proofs.queue.Queue.drop_one.Goals as goal

pub unlink-requires-clause-linked : goal.unlink-requires-clause-linked
unlink-requires-clause-linked c = s.first-in _ _ _ c.self.invariant c.first.ensures.each_once c.in-Some.node (sym c.in-Some.ensures.first)

pub invariant_of-self : goal.invariant_of-self
invariant_of-self c =
    let linked = s.first-in _ _ _ c.self.invariant c.first.ensures.each_once c.in-Some.node (sym c.in-Some.ensures.first) in
    let it = s.took _ _ _ c.self.invariant c.first.ensures.each_once c.in-Some.node linked _ c.unlink.ensures in
    s.sound-out _ _ _ c.self.invariant c.in-Some.node _ it.0 _ it.1

pub returns-in-Some : goal.returns-in-Some
returns-in-Some c =
    let linked = s.first-in _ _ _ c.self.invariant c.first.ensures.each_once c.in-Some.node (sym c.in-Some.ensures.first) in
    let it = s.took _ _ _ c.self.invariant c.first.ensures.each_once c.in-Some.node linked _ c.unlink.ensures in
    let gone = s.first-gone _ _ _ c.self.invariant c.first.ensures.each_once c.in-Some.node (sym c.in-Some.ensures.first) in
    let less : Waiting → Waiting = λ w. record { names = w.names; queue = drop 1 w.queue } in
    ap (λ (x : Lists). s.seen c.self.inside.names.items x) it.0
    ∙ (ap (λ (rs : List RecordId). let w : Waiting = record { names = c.self.inside.names.items; queue = rs } in w) gone
    ∙ ap less c.self.view_is)

pub returns-in_default : goal.returns-in_default
returns-in_default c =
    let none = s.none-first _ _ _ c.self.invariant (sym c.first.ensures.first ∙ c.in_default.is) in
    subst (λ (w : Waiting). w ≡ record { names = w.names; queue = drop 1 w.queue }) c.self.view_is
    (ap (λ (rs : List RecordId). let w : Waiting = record { names = c.self.inside.names.items; queue = rs } in w) none)
