use Rattle.std.proofs.Common.{below_more, ap, ◌+ℤ◌, ◌≤ℤ◌, ◌-◌, ◌^◌, pos, subst}
use Rattle.solve_order.specs.declared.search.Edge.{Edge}
use Rattle.solve_order.specs.Search.{lowered_value, IsRelaxing, MeetsEdge}
use Rattle.solve_order.proofs.SearchLemmas.{Lowers-trans, MeetsHighBelow-kept}
use Rattle.solve_order.proofs.search.Search.relax_high.Goals as goal

pub returns-then-relax-clause-lowers : goal.returns-then-relax-clause-lowers
returns-then-relax-clause-lowers c = Lowers-trans _ _ _ c.loop-to.invariant.1 c.if-relax.ensures.lowers

pub loop-to-preserved : goal.loop-to-preserved
loop-to-preserved c =
    let literals = c.args.self.now.edges.now.literals in
    let values = c.args.self.now.values.now in
    let inv = c.loop-to.invariant in
    let g = c.relax.new.frontier in
    let is = c.high_edge-edge.ensures.is in
    let r = c.if-relax.ensures in
    let kept = MeetsHighBelow-kept literals values c.args.self.now.goal c.loop-to.frontier g c.loop-to.to r.lowers inv.0.front.settled inv.2 in
    let here = subst (λ e. MeetsEdge values g e) is r.met in
    (subst (λ s. IsRelaxing literals values c.args.self.now.goal g s) (ap (λ (e : Edge). e.from) is) r.relaxing, Lowers-trans _ _ _ inv.1 r.lowers, below_more (λ v. lowered_value values g v ≤ℤ (lowered_value values g 0 +ℤ pos (2 ^ 63 - 1))) _ kept here)
