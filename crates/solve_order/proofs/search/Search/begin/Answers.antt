use Rattle.std.proofs.Common.{ap, ◌∙◌, subst, refl, slice_set, length, IsTrue, to_z, of_z, rules}
use Rattle.std.specs.Int.{w128}
use Rattle.std.proofs.lemmas.Int.{to_z-of_z}
use Rattle.solve_order.specs.Difference.{is_literal}
use Rattle.solve_order.specs.declared.frontier.TheConstants.{UNSETTLED}
use Rattle.solve_order.specs.declared.frontier.Reach.{Reach}
use Rattle.solve_order.proofs.DifferenceLemmas.{IsLiteral-from_test}
use Rattle.solve_order.proofs.SearchLemmas.{IsBetween-start}
use Rattle.solve_order.proofs.search.Search.begin.Goals as goal

pub returns : goal.returns
returns c =
    let s = c.args.self.now in
    let fits = IsLiteral-from_test (length s.values.now) s.goal (subst (λ n. IsTrue (is_literal n s.goal)) c.requires.potential.as_long c.requires.fits) in
    let lowered = c.excess-lowered.result in
    let r : Reach = record { lowered = to_z w128 (of_z w128 lowered); rank = UNSETTLED; from = s.goal.y; via = 0 } in
    IsBetween-start s.edges.now.literals s.values.now s.goal c.lower.new.self r c.requires.potential.assigns fits c.requires.apart c.requires.broken (c.lower.ensures ∙ ap (λ f. slice_set f s.goal.x r) c.requires.fresh) (to_z-of_z w128 lowered (search rules) ∙ c.excess-lowered.ensures) refl
