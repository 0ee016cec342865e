use Rattle.std.proofs.Common.{◌≡◌, ◌+◌, ◌<◌, length, IsTrue, subst, sym, arith}
use Rattle.std.proofs.lemmas.List.{get_or_read, length_push, length-set}
use Rattle.solve_order.specs.Difference.{Constraints, is_literal}
use Rattle.solve_order.proofs.DifferenceLemmas.{IsLiteral-from_test}
use Rattle.solve_order.proofs.EdgesLemmas.{IsLinked-push}
use Rattle.solve_order.proofs.edges.Edges.push.Goals as goal

pub invariant_of-self : goal.invariant_of-self
invariant_of-self c =
    let s = c.self.inside in
    let l = c.args.l in
    let room = c.self.invariant.1 in
    let fits : IsTrue (is_literal (length s.latest.items) l) = subst (λ (e : Constraints). IsTrue (is_literal e.variables l)) (sym c.self.view_is) c.requires.fits in
    let free = subst (λ (e : Constraints). length e.literals < e.capacity) (sym c.self.view_is) c.requires.room in
    let last = get_or_read s.latest.items l.y c.index-last.result.now (IsLiteral-from_test _ l fits).y_within c.index-last.ensures 0 in
    let long = length_push s.literals.items l in
    let heads = length-set s.latest.items l.y (length s.literals.items + 1) in
    let count : c.len.result ≡ length s.literals.items = omega (arith, c.len.ensures, s.literals.ok.0) in
    rw (c.in-Ok-push.ensures.items, c.in-Ok.ensures.items, count) (
      IsLinked-push s.literals.items s.earlier.items s.latest.items l c.index-last.result.now c.self.invariant.0 fits last,
      record {
        within = omega arith;
        literals_short = room.literals_short;
        vertices_short = let x = room.vertices_short in rw length-set x;
        fits = let x = room.fits in omega (arith, c.in-Ok-push.ensures.capacity);
        fits_earlier = let x = room.fits_earlier in omega (arith, c.in-Ok.ensures.capacity);
      },
    )
