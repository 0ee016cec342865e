use Rattle.std.proofs.Common.{◌≡◌, true, false, sym, ◌∙◌, subst}
use Rattle.std.specs.Prelude.{Some}
use Rattle.link_arena.specs.Lists.{is_linked}
use Rattle.online_queue.specs.declared.records.RecordId.{RecordId}
use Rattle.online_queue.specs.Waiting.{Waiting, name_at, taken_out}
use Rattle.online_queue.proofs.Soundness as s
use Rattle.online_queue.proofs.queue.Queue.unmark.Goals as goal

pub invariant_of-self : goal.invariant_of-self
invariant_of-self c =
    let it = s.took _ _ _ c.self.invariant c.first-first.ensures.each_once c.args.node (sym c.is_linked.ensures ∙ c.if-is_linked.true) _ c.unlink.ensures in
    s.sound-out _ _ _ c.self.invariant c.args.node _ it.0 _ it.1

pub returns-then-is_linked : goal.returns-then-is_linked
returns-then-is_linked c =
    let it = s.took _ _ _ c.self.invariant c.first-first.ensures.each_once c.args.node (sym c.is_linked.ensures ∙ c.if-is_linked.true) _ c.unlink.ensures in
    subst (λ (w : Waiting). (r : RecordId) → name_at w.names c.args.node ≡ Some r → s.seen c.self.inside.names.items c.unlink.new.self ≡ taken_out r w) c.self.view_is
    (λ r at. s.seen-out _ _ _ c.self.invariant c.args.node _ it.0 r at)

pub returns-else-is_linked : goal.returns-else-is_linked
returns-else-is_linked c =
    subst (λ (w : Waiting). (r : RecordId) → name_at w.names c.args.node ≡ Some r → w ≡ taken_out r w) c.self.view_is
    (λ r at. s.seen-absent _ _ _ c.self.invariant c.args.node r at (sym c.is_linked.ensures ∙ c.if-is_linked.false))
