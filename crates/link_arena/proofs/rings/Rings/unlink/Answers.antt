use Rattle.std.proofs.Common.{◌≡◌, ◌<◌, true, subst, sym, ap, ◌∙◌}
use Rattle.link_arena.specs.Lists.{Lists, is_linked, unlinked}
use Rattle.link_arena.specs.Rings.{rings, AreSound}
use Rattle.link_arena.proofs.HoldLemmas.{AreSound-unlinked}
use Rattle.link_arena.proofs.rings.Rings.unlink.Goals as goal

-- the lists at the end, and that they are sound
kept : (c : goal.After-exchange) → let r = c.self.inside in
    (rings r.lists r.nodes c.exchange.new.self r.nodes ≡ unlinked c.args.node (rings r.lists r.nodes r.links r.nodes)) × AreSound r.nodes r.lists c.exchange.new.self
kept c =
    let r = c.self.inside in
    let node_in : c.args.node < r.nodes = subst (λ (s : Lists). c.args.node < s.nodes) (sym c.self.view_is) c.requires.node_in in
    let linked : is_linked c.args.node (rings r.lists r.nodes r.links r.nodes) ≡ true = subst (λ (s : Lists). is_linked c.args.node s.lists ≡ true) (sym c.self.view_is) c.requires.linked in
    AreSound-unlinked r.nodes r.lists r.links c.exchange.new.self c.prev-before.result c.args.node c.self.invariant
    c.prev-before.ensures.below node_in c.exchange.ensures.exchanged c.exchange.ensures.injective c.prev-before.ensures.prev linked

pub invariant_of-self : goal.invariant_of-self
invariant_of-self c = (kept c).1

pub returns : goal.returns
returns c =
    let as_lists = ap (λ (l : _). let s : Lists = record { nodes = c.self.inside.nodes; lists = l } in s) (kept c).0 in
    as_lists ∙ ap (λ (s : Lists). let t : Lists = record { nodes = s.nodes; lists = unlinked c.args.node s.lists } in t) c.self.view_is
