use Rattle.std.proofs.Common.{◌∙◌, List, [], ◌∷◌, ◌++◌, ap, Option, subst, arith}
use Rattle.solve_equality.specs.declared.edges.Edge.{Edge}
use Rattle.solve_equality.specs.EdgeList.{IsSoundEdges}
use Rattle.solve_equality.proofs.EdgesLemmas.{IsSoundEdges-pop_none, IsSoundEdges-pop_some}
use Rattle.solve_equality.proofs.edges.Edges.pop.Goals as goal

pub invariant_of-self-in-Some-None : goal.invariant_of-self-in-Some-None
invariant_of-self-in-Some-None c =
    let inside = c.self.inside in
    let was = c.in-Some-None.ensures.items ∙ ap (λ (e : Option Edge). c.pop.new.self.items ++ e ∷ []) c.in-Some-None.field-0-is in
    IsSoundEdges-pop_none c.pop.new.self.items inside.newest.items inside.limit inside.list.cap c.pop.new.self.cap (omega (arith, c.in-Some-None.ensures.capacity)) (subst (λ (l : List (Option Edge)). IsSoundEdges l inside.newest.items inside.limit inside.list.cap) was c.self.invariant)

pub invariant_of-self-in-Some-Some : goal.invariant_of-self-in-Some-Some
invariant_of-self-in-Some-Some c =
    let inside = c.self.inside in
    let was = c.in-Some-Some.ensures.items ∙ ap (λ (e : Option Edge). c.pop.new.self.items ++ e ∷ []) c.in-Some-Some.field-0-is in
    IsSoundEdges-pop_some c.pop.new.self.items inside.newest.items inside.limit inside.list.cap c.pop.new.self.cap (omega (arith, c.in-Some-Some.ensures.capacity)) c.in-Some-Some.edge (subst (λ (l : List (Option Edge)). IsSoundEdges l inside.newest.items inside.limit inside.list.cap) was c.self.invariant)
