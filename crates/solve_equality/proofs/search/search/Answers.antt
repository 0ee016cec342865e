use Rattle.std.proofs.Common.{ℕ, ◌<◌, ◌∙◌, length, sym, ap, arith, subst}
use borrow.Author.Count.{below_more}
use Rattle.solve_equality.specs.declared.visits.Visit.{Visit}
use Rattle.solve_equality.specs.Visits.{visit_at}
use Rattle.solve_equality.specs.Search.{AroundIsVisited}
use Rattle.solve_equality.proofs.SearchLemmas.{AroundIsVisited-grows, IsClosed-from_done, visit_at_grows, length-le_grows}
use Rattle.solve_equality.proofs.search.search.Goals as goal

pub loop-place-preserved : goal.loop-place-preserved
loop-place-preserved c =
    let pairs = c.args.edges.now.pairs in
    let visits = c.loop-place.visits.visits in
    let new = c.visit_neighbours.new.visits.visits in
    let inv = c.loop-place.invariant in
    let call = c.visit_neighbours.ensures in
    let longer = length-le_grows visits new call.grows in
    let here : c.loop-place.place < length visits = omega (arith, c.len.ensures.value) in
    let around : (j : ℕ) → j < length visits → AroundIsVisited pairs new (visit_at visits j).term → AroundIsVisited pairs new (visit_at new j).term =
    λ j l. subst (λ (v : Visit). AroundIsVisited pairs new v.term) (sym (visit_at_grows visits new j call.grows l)) in
    record {
      terms = call.terms ∙ inv.terms;
      begins = omega arith;
      starts = ap (λ (v : Visit). v.term) (visit_at_grows visits new 0 call.grows inv.begins) ∙ inv.starts;
      tree = call.tree;
      within = omega arith;
      done =
          below_more (λ j. AroundIsVisited pairs new (visit_at new j).term) c.loop-place.place
          (λ j l. around j (omega arith) (AroundIsVisited-grows pairs visits new (visit_at visits j).term call.grows (inv.done j l)))
          (around c.loop-place.place here call.around);
    }

pub returns-clause-closed : goal.returns-clause-closed
returns-clause-closed c =
    let visits = c.loop-place.visits.visits in
    IsClosed-from_done c.args.edges.now.pairs visits (λ j l. c.loop-place.invariant.done j (omega arith))
