use Rattle.std.proofs.Math.Logic.{⊎_elim}
use Rattle.std.proofs.Common.{◌≡◌, true, ◌<◌, ◌∙◌, sym, ap, subst, arith}
use Rattle.std.proofs.lemmas.Bool.{cases_eq}
use Rattle.std.proofs.lemmas.Option.{get_or_from_slice_get}
use Rattle.solve_equality.specs.declared.visits.Visit.{Visit}
use Rattle.solve_equality.specs.Visits.{has_visited, visit_at}
use Rattle.solve_equality.specs.Edges.{pair_at, Joins}
use Rattle.solve_equality.proofs.SearchLemmas.{visited_at, place_of_visited}
use Rattle.solve_equality.proofs.ClashLemmas.{IsClash-from_gap}
use Rattle.solve_equality.proofs.clash.find_clash.Goals as goal

pub returns-in-Some-clause-found : goal.returns-in-Some-clause-found
returns-in-Some-clause-found c =
    let visits = c.args.members.now.visits in
    let term = c.at-member.result.term in
    let at_place = get_or_from_slice_get visits c.loop-place.place c.at-member.result (record { term = 0; via = 0; from = 0 }) c.at-member.ensures.value in
    let within : term < c.args.gaps.now.terms = omega (arith, c.at-member.ensures.within, c.requires.terms) in
    let seen = subst (λ (v : Visit). has_visited visits v.term ≡ true) at_place (visited_at visits c.loop-place.place (omega (arith, c.len-place-end.ensures.value))) in
    IsClash-from_gap c.args.parts.now c.args.gaps.now visits c.args.from c.args.into term c.in-Some.clash within seen c.in-Some.ensures.found

pub loop-place-preserved : goal.loop-place-preserved
loop-place-preserved c = λ j k s l k_in joined.
    let pairs = c.args.gaps.now.pairs in
    let visits = c.args.members.now.visits in
    let at_place = get_or_from_slice_get visits c.loop-place.place c.at-member.result (record { term = 0; via = 0; from = 0 }) c.at-member.ensures.value in
    ⊎_elim
    (λ here. c.in_default-find_gap.ensures.none k s k_in (subst (λ (v : Visit). Joins (pair_at pairs k) s v.term) (ap (visit_at visits) here ∙ at_place) joined))
    (λ other. c.loop-place.invariant j k s (omega arith) k_in joined)
    (cases_eq j c.loop-place.place)

pub returns-clause-none : goal.returns-clause-none
returns-clause-none c = λ k s t l joined seen.
    let visits = c.args.members.now.visits in
    let place = place_of_visited visits t seen in
    c.loop-place.invariant place.0 k s (omega (arith, place.1, c.len-place-end.ensures.value)) l (subst (λ u. Joins (pair_at c.args.gaps.now.pairs k) s u) (sym place.2) joined)
