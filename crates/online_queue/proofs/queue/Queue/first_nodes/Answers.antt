use Rattle.std.proofs.Common.{◌≡◌, ◌+◌, ◌≤◌, [], ◌∷◌, ◌++◌, take, map, ap, sym, ◌∙◌, subst, arith, add-one}
use Rattle.std.specs.Prelude.{Some, None, slice_get}
use Rattle.online_queue.specs.Waiting.{Waiting, name_at}
use Rattle.online_queue.proofs.Soundness as s
use Rattle.online_queue.proofs.Orders.{take-whole, take-next}
use Rattle.online_queue.proofs.queue.Queue.first_nodes.Goals as goal

pub next-next-requires-clause-node_in : goal.next-next-requires-clause-node_in
next-next-requires-clause-node_in c = s.place-named _ _ _ c.self.invariant c.loop-turn._turn c.in-Some.node (sym c.loop-turn.invariant.1 ∙ c.in-Some.is)

pub next-next-requires-clause-linked : goal.next-next-requires-clause-linked
next-next-requires-clause-linked c = s.place-linked _ _ _ c.self.invariant c.loop-turn._turn c.in-Some.node (sym c.loop-turn.invariant.1 ∙ c.in-Some.is)

pub loop-turn-preserved : goal.loop-turn-preserved
loop-turn-preserved c =
    let at : slice_get (s.order c.self.inside.rings) c.loop-turn._turn ≡ Some c.in-Some.node = sym c.loop-turn.invariant.1 ∙ c.in-Some.is in
    let more : take (c.loop-turn._turn + 1) (s.order c.self.inside.rings) ≡ take c.loop-turn._turn (s.order c.self.inside.rings) ++ c.in-Some.node ∷ []
    = ap (λ n. take n (s.order c.self.inside.rings)) (add-one c.loop-turn._turn) ∙ take-next (s.order c.self.inside.rings) c.loop-turn._turn c.in-Some.node at in (
      c.in_ok-push.ensures.items ∙ (ap (λ ns. ns ++ c.in-Some.node ∷ []) c.loop-turn.invariant.0 ∙ sym more),
      c.next-next.ensures.next ∙ s.next-place _ _ _ c.self.invariant c.first-next.ensures.each_once c.loop-turn._turn c.in-Some.node at,
    )

-- what the nodes are, in the words of the caller
pub returns-in_default : goal.returns-in_default
returns-in_default c =
    let none : slice_get (s.order c.self.inside.rings) c.loop-turn._turn ≡ None = sym c.loop-turn.invariant.1 ∙ c.in_default.is in
    let most : c.loop-turn._turn ≤ c.args.most = omega arith in
    let it = s.firsts _ _ _ c.self.invariant c.loop-turn.nodes.items c.args.most
    (c.loop-turn.invariant.0 ∙ take-whole (s.order c.self.inside.rings) c.loop-turn._turn c.args.most none most) in
    subst (λ (w : Waiting). map (name_at w.names) c.loop-turn.nodes.items ≡ map Some (take c.args.most w.queue)) c.self.view_is it

pub returns : goal.returns
returns c =
    let all : c.loop-turn._turn ≡ c.args.most = omega arith in
    let it = s.firsts _ _ _ c.self.invariant c.loop-turn.nodes.items c.args.most
    (c.loop-turn.invariant.0 ∙ ap (λ n. take n (s.order c.self.inside.rings)) all) in
    subst (λ (w : Waiting). map (name_at w.names) c.loop-turn.nodes.items ≡ map Some (take c.args.most w.queue)) c.self.view_is it
