use Rattle.std.proofs.Common.{◌≡◌, ◌-◌, ◌+ℤ◌, ◌≤ℤ◌, ap, ◌∙◌, sym, subst, arith}
use Rattle.solve_order.specs.declared.diff.Diff.{Diff}
use Rattle.solve_order.specs.Edges.{literal_at}
use Rattle.solve_order.specs.Search.{lowered_value, IsRelaxing}
use Rattle.solve_order.proofs.SearchLemmas.{Lowers-trans, MeetsListedFrom-kept, MeetsListedFrom-more}
use Rattle.solve_order.proofs.search.Search.relax_listed.Goals as goal

pub returns-then-relax-clause-lowers : goal.returns-then-relax-clause-lowers
returns-then-relax-clause-lowers c = Lowers-trans _ _ _ c.loop-via.invariant.1 c.if-relax.ensures.lowers

pub loop-via-preserved : goal.loop-via-preserved
loop-via-preserved c =
    let literals = c.args.self.now.edges.now.literals in
    let values = c.args.self.now.values.now in
    let inv = c.loop-via.invariant in
    let f = c.loop-via.frontier in
    let g = c.relax.new.frontier in
    let via = c.loop-via.via in
    let e = c.listed_edge-edge.result in
    let is = c.listed_edge-edge.ensures.literal in
    let leads : (literal_at literals (via - 1)).y ≡ c.args.from = inv.4 (omega arith) in
    let from : e.from ≡ c.args.from = sym (ap (λ (d : Diff). d.y) is) ∙ leads in
    let r = c.if-relax.ensures in
    let here : lowered_value values g e.to ≤ℤ (lowered_value values g c.args.from +ℤ e.bound) = subst (λ s. lowered_value values g e.to ≤ℤ (lowered_value values g s +ℤ e.bound)) from r.met in
    let kept = MeetsListedFrom-kept literals values c.args.self.now.goal f g via c.args.from r.lowers inv.0.front.settled inv.2 in
    let link = c.earlier-via.ensures in
    let below = link.below in
    let within = inv.3 in
    (subst (λ s. IsRelaxing literals values c.args.self.now.goal g s) from r.relaxing, Lowers-trans _ _ _ inv.1 r.lowers, MeetsListedFrom-more literals values g via c.args.from c.earlier-via.result (record { x = e.to; y = e.from; c = e.bound }) (omega arith) (sym is) leads link kept here, omega arith, λ some. link.leads some ∙ leads)
