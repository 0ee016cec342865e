use Rattle.std.proofs.Common.{◌<◌, length, Some, None, nat_lt, if◌then◌else◌, subst, sym, ap, ◌∙◌}
use Rattle.std.specs.List.{slice_get}
use Rattle.link_arena.specs.Lists.{Lists, EachOnce, list_at}
use Rattle.link_arena.specs.Rings.{rings}
use Rattle.link_arena.proofs.HoldLemmas.{Hold-first, Hold-each_once}
use Rattle.link_arena.proofs.rings.Rings.first.Goals as goal

pub returns-clause-first : goal.returns-clause-first
returns-clause-first c =
    let r = c.self.inside in
    let list_in : c.args.list < length (rings r.lists r.nodes r.links r.nodes) = subst (λ (s : Lists). c.args.list < length s.lists) (sym c.self.view_is) c.requires in
    c.node_at.ensures
    ∙ ap (λ k. if nat_lt k r.nodes then Some k else None) c.next.ensures.next
    ∙ Hold-first r.nodes r.links _ c.self.invariant.hold c.args.list list_in
    ∙ ap (λ (s : Lists). slice_get (list_at s.lists c.args.list) 0) c.self.view_is

pub returns-clause-each_once : goal.returns-clause-each_once
returns-clause-each_once c =
    subst (λ (s : Lists). EachOnce s.lists) c.self.view_is (Hold-each_once c.self.inside.nodes c.self.inside.links _ c.self.invariant.hold)
