use Rattle.std.proofs.Common.{◌≡◌, true, Some, None, nat_lt, if◌then◌else◌, subst, sym, ap, ◌∙◌}
use Rattle.link_arena.specs.Lists.{Lists, EachOnce, is_linked, next_of}
use Rattle.link_arena.specs.Rings.{rings}
use Rattle.link_arena.proofs.HoldLemmas.{Hold-next, Hold-each_once}
use Rattle.link_arena.proofs.rings.Rings.next.Goals as goal

pub returns-clause-next : goal.returns-clause-next
returns-clause-next c =
    let r = c.self.inside in
    let linked : is_linked c.args.node (rings r.lists r.nodes r.links r.nodes) ≡ true = subst (λ (s : Lists). is_linked c.args.node s.lists ≡ true) (sym c.self.view_is) c.requires.linked in
    c.node_at.ensures
    ∙ ap (λ k. if nat_lt k r.nodes then Some k else None) c.next.ensures.next
    ∙ Hold-next r.nodes r.links _ c.self.invariant.hold c.args.node linked
    ∙ ap (λ (s : Lists). next_of c.args.node s.lists) c.self.view_is

pub returns-clause-each_once : goal.returns-clause-each_once
returns-clause-each_once c =
    subst (λ (s : Lists). EachOnce s.lists) c.self.view_is (Hold-each_once c.self.inside.nodes c.self.inside.links _ c.self.invariant.hold)
