use Rattle.std.proofs.Common.{◌<◌, not, nat_eq, subst, sym, ap, ◌∙◌}
use Rattle.link_arena.specs.Lists.{Lists, is_linked}
use Rattle.link_arena.proofs.HoldLemmas.{Hold-is_linked}
use Rattle.link_arena.proofs.rings.Rings.is_linked.Goals as goal

pub returns : goal.returns
returns c =
    let r = c.self.inside in
    let node_in : c.args.node < r.nodes = subst (λ (s : Lists). c.args.node < s.nodes) (sym c.self.view_is) c.requires in
    ap (λ k. not (nat_eq k c.args.node)) c.next.ensures.next ∙ Hold-is_linked r.nodes r.links _ c.self.invariant.hold c.args.node node_in
    ∙ ap (λ (s : Lists). is_linked c.args.node s.lists) c.self.view_is
