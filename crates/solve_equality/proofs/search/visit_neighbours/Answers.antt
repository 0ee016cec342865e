use Rattle.std.proofs.Common.{◌≡◌, ℕ, ◌<◌, ◌∙◌, true, List, [], ◌∷◌, ◌++◌, length, sym, ap, arith, subst, slice_get, Some}
use Rattle.std.proofs.lemmas.Option.{MatchOption-at_some, get_or_from_slice_get}
use Rattle.solve_equality.specs.declared.visits.Visit.{Visit}
use Rattle.solve_equality.specs.Visits.{has_visited, visit_at}
use Rattle.solve_equality.specs.Edges.{pair_at, mentions}
use Rattle.solve_equality.specs.Search.{Grows}
use Rattle.solve_equality.proofs.SearchLemmas.{IsPast, step, next_at_term, IsTree-push, Grows-push, visited_at, visited_more, visited_push, visit_at_grows, length-le_grows}
use Rattle.solve_equality.proofs.search.visit_neighbours.Goals as goal

-- the term at the place, once the visits have grown
term_at_place : (visits new : List Visit) (place : ℕ) (v : Visit) → place < length visits → slice_get visits place ≡ Some v → Grows visits new → visit_at new place ≡ v
term_at_place visits new place v l at_place grows =
    visit_at_grows visits new place grows l ∙ get_or_from_slice_get visits place v (record { term = 0; via = 0; from = 0 }) at_place

seen_at_place : (visits new : List Visit) (place : ℕ) (v : Visit) → place < length visits → slice_get visits place ≡ Some v → Grows visits new → has_visited new v.term ≡ true
seen_at_place visits new place v l at_place grows =
    ap (λ (w : Visit). has_visited new w.term) (sym (term_at_place visits new place v l at_place grows))
    ∙ visited_at new place (omega (arith, length-le_grows visits new grows))

pub loop-next-preserved-then-not-has : goal.loop-next-preserved-then-not-has
loop-next-preserved-then-not-has c =
    let pairs = c.args.edges.now.pairs in
    let visits = c.loop-next.visits.visits in
    let inv = c.loop-next.invariant in
    let before = c.args.visits.now.visits in
    let term = c.at-term.result.term in
    let v : Visit = record { term = c.hop-hop.result.other; via = c.in-Some.edge; from = c.args.place } in
    let edge_in = MatchOption-at_some (Unit {0}) (λ k. (k < length pairs) × (mentions term (pair_at pairs k) ≡ true)) c.in-Some.edge c.in-Some.is inv.next_is in
    let place_in : c.args.place < length visits = omega (arith, c.requires.within, length-le_grows before visits inv.grows) in
    let at_place = term_at_place before visits c.args.place c.at-term.result c.requires.within c.at-term.ensures.value inv.grows in
    rw c.add.ensures
    (record {
      terms = inv.terms;
      grows = Grows-push before visits v inv.grows;
      tree = IsTree-push pairs visits v inv.tree (sym c.if-not-has.ensures) place_in edge_in.0 (rw at_place c.hop-hop.ensures.joins);
      next_is = next_at_term pairs term c.in-Some.edge c.hop-hop.result.older edge_in.0 c.hop-hop.ensures.older;
      done =
          step pairs visits (visits ++ v ∷ []) term c.in-Some.edge c.hop-hop.result.other c.loop-next.next c.hop-hop.result.older c.in-Some.is c.hop-hop.ensures.older c.hop-hop.ensures.joins
          (visited_more visits (v ∷ []))
          (seen_at_place before visits c.args.place c.at-term.result c.requires.within c.at-term.ensures.value inv.grows)
          (visited_push visits v)
          inv.done;
    })

pub loop-next-preserved : goal.loop-next-preserved
loop-next-preserved c =
    let pairs = c.args.edges.now.pairs in
    let visits = c.loop-next.visits.visits in
    let inv = c.loop-next.invariant in
    let before = c.args.visits.now.visits in
    let term = c.at-term.result.term in
    let edge_in = MatchOption-at_some (Unit {0}) (λ k. (k < length pairs) × (mentions term (pair_at pairs k) ≡ true)) c.in-Some.edge c.in-Some.is inv.next_is in
    record {
      terms = inv.terms;
      grows = inv.grows;
      tree = inv.tree;
      next_is = next_at_term pairs term c.in-Some.edge c.hop-hop.result.older edge_in.0 c.hop-hop.ensures.older;
      done =
          step pairs visits visits term c.in-Some.edge c.hop-hop.result.other c.loop-next.next c.hop-hop.result.older c.in-Some.is c.hop-hop.ensures.older c.hop-hop.ensures.joins
          (λ t e. e)
          (seen_at_place before visits c.args.place c.at-term.result c.requires.within c.at-term.ensures.value inv.grows)
          (sym c.if-not-has.ensures)
          inv.done;
    }

pub returns-clause-around : goal.returns-clause-around
returns-clause-around c = λ k l e.
    let at_place = get_or_from_slice_get c.args.visits.now.visits c.args.place c.at-term.result (record { term = 0; via = 0; from = 0 }) c.at-term.ensures.value in
    c.loop-next.invariant.done k l (subst (λ o. IsPast o k) (sym c.in_default.is) tt) (rw at_place at e)
