use Rattle.std.proofs.Common.{◌≡◌, true, false, sym, ◌∙◌, subst, arith}
use Rattle.std.specs.Prelude.{Some, is_some}
use Rattle.link_arena.specs.Lists.{is_linked}
use Rattle.online_queue.specs.declared.records.RecordId.{RecordId}
use Rattle.online_queue.specs.Waiting.{Waiting, name_at, to_end}
use Rattle.online_queue.proofs.Soundness as s
use Rattle.online_queue.proofs.queue.Queue.mark.Goals as goal

pub overflow_add-self : goal.overflow_add-self
overflow_add-self c =
    let named = subst (λ (w : Waiting). is_some (name_at w.names c.args.node) ≡ true) (sym c.self.view_is) c.requires in
    let room = s.few _ _ _ c.self.invariant c.first-first.ensures.each_once c.args.node named (sym c.is_linked.ensures ∙ c.if-is_linked.false) in
    let fits = c.self.invariant.fits in
    omega (arith, room, fits)

pub invariant_of-self : goal.invariant_of-self
invariant_of-self c =
    let named = subst (λ (w : Waiting). is_some (name_at w.names c.args.node) ≡ true) (sym c.self.view_is) c.requires in
    let it = s.moved _ _ _ c.self.invariant c.first-first.ensures.each_once c.args.node (sym c.is_linked.ensures ∙ c.if-is_linked.true) _ c.move_to.ensures in
    s.sound-end _ _ _ c.self.invariant c.args.node named _ it.0 _ it.1

pub returns-then-is_linked : goal.returns-then-is_linked
returns-then-is_linked c =
    let it = s.moved _ _ _ c.self.invariant c.first-first.ensures.each_once c.args.node (sym c.is_linked.ensures ∙ c.if-is_linked.true) _ c.move_to.ensures in
    let named = subst (λ (w : Waiting). is_some (name_at w.names c.args.node) ≡ true) (sym c.self.view_is) c.requires in
    subst (λ (w : Waiting). (r : RecordId) → name_at w.names c.args.node ≡ Some r → s.seen c.self.inside.names.items c.move_to.new.self ≡ to_end r w) c.self.view_is
    (λ r at. s.seen-end _ _ _ c.self.invariant c.args.node named _ it.0 r at)

pub returns-else-is_linked : goal.returns-else-is_linked
returns-else-is_linked c =
    let it = s.put-last _ _ _ c.self.invariant c.args.node (sym c.is_linked.ensures ∙ c.if-is_linked.false) _ c.push_back.ensures in
    let named = subst (λ (w : Waiting). is_some (name_at w.names c.args.node) ≡ true) (sym c.self.view_is) c.requires in
    subst (λ (w : Waiting). (r : RecordId) → name_at w.names c.args.node ≡ Some r → s.seen c.self.inside.names.items c.push_back.new.self ≡ to_end r w) c.self.view_is
    (λ r at. s.seen-end _ _ _ c.self.invariant c.args.node named _ it.0 r at)
