use Rattle.std.proofs.Common.{◌≡◌, ◌<◌, false, length, subst, sym, ap, ◌∙◌, arith}
use Rattle.link_arena.specs.Lists.{Lists, is_linked, pushed}
use Rattle.link_arena.specs.Rings.{rings, AreSound}
use Rattle.link_arena.proofs.HoldLemmas.{AreSound-pushed}
use Rattle.link_arena.proofs.rings.Rings.push_back.Goals as goal

-- the lists at the end, and that they are sound
kept : (c : goal.After-exchange) → let r = c.self.inside in
    (rings r.lists r.nodes c.exchange.new.self r.nodes ≡ pushed c.args.list c.args.node (rings r.lists r.nodes r.links r.nodes)) × AreSound r.nodes r.lists c.exchange.new.self
kept c =
    let r = c.self.inside in
    let node_in : c.args.node < r.nodes = subst (λ (s : Lists). c.args.node < s.nodes) (sym c.self.view_is) c.requires.node_in in
    let list_in : c.args.list < length (rings r.lists r.nodes r.links r.nodes) = subst (λ (s : Lists). c.args.list < length s.lists) (sym c.self.view_is) c.requires.list_in in
    let in_none : is_linked c.args.node (rings r.lists r.nodes r.links r.nodes) ≡ false = subst (λ (s : Lists). is_linked c.args.node s.lists ≡ false) (sym c.self.view_is) c.requires.unlinked in
    AreSound-pushed r.nodes r.lists r.links c.exchange.new.self c.prev-last.result c.args.node c.self.invariant
    c.prev-last.ensures.below node_in c.exchange.ensures.exchanged c.exchange.ensures.injective c.args.list (omega (arith, c.self.invariant.count)) c.prev-last.ensures.prev in_none

pub invariant_of-self : goal.invariant_of-self
invariant_of-self c = (kept c).1

pub returns : goal.returns
returns c =
    let as_lists = ap (λ (l : _). let s : Lists = record { nodes = c.self.inside.nodes; lists = l } in s) (kept c).0 in
    as_lists ∙ ap (λ (s : Lists). let t : Lists = record { nodes = s.nodes; lists = pushed c.args.list c.args.node s.lists } in t) c.self.view_is
