use Rattle.std.proofs.Common.{length, ap, arith}
use Rattle.std.proofs.lemmas.List.{length_push, length-set}
use Rattle.solve_order.proofs.EdgesLemmas.{IsLinked-pop}
use Rattle.solve_order.proofs.edges.Edges.pop.Goals as goal

pub invariant_of-self : goal.invariant_of-self
invariant_of-self c =
    let s = c.self.inside in
    let l = c.in-Some.l in
    let last = c.in-Some-pop.last in
    let room = c.self.invariant.1 in
    let cut = c.in-Some.ensures.items in
    let long = ap length cut in
    let more = length_push c.pop.new.self.items l in
    let heads = length-set s.latest.items l.y last in (
      IsLinked-pop s.literals.items c.pop.new.self.items s.earlier.items c.pop-in-Some.new.self.items s.latest.items l last cut c.in-Some-pop.ensures.items c.self.invariant.0,
      record {
        within = let x = room.within in omega arith;
        literals_short = room.literals_short;
        vertices_short = let x = room.vertices_short in omega arith;
        fits = let x = room.fits in omega (arith, c.in-Some.ensures.capacity);
        fits_earlier = let x = room.fits_earlier in omega (arith, c.in-Some-pop.ensures.capacity);
      },
    )
