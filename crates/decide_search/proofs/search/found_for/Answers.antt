use Rattle.std.proofs.Common.{◌++◌, map, refl}
use Rattle.decide_search.specs.declared.mixture.Mixture.{Mixture}
use Rattle.decide_search.specs.Problem.{AreSolved}
use Rattle.decide_search.specs.Tabled.{AreBrokenBy, AreNewCongruences, IsGroundFor}
use Rattle.decide_search.proofs.Glue.{nowhere_as, found_as, broken_as}
use Rattle.decide_search.proofs.Solved.{ok_too, some_too, round_too}
use Rattle.decide_search.proofs.search.found_for.Goals as goal

pub returns-clause-none : goal.returns-clause-none
returns-clause-none c =
    ok_too c.found_by_clauses.result _ _
    (λ found h none f ts closed over normal is gr.
    nowhere_as c.args.signature.now c.args.arena.now f ts closed c.args.spoken.now c.args.clauses over normal is gr
    c.as_slice-own.result.now c.see_texts.ensures c.as_slice-facts.result.now _ c.as_slice-facts.ensures.value
    refl (h none))
    c.found_by_clauses.ensures.none

pub returns-clause-some : goal.returns-clause-some
returns-clause-some c =
    let s = c.args.spoken.now in
    let ground = c.args.clauses in
    let g = c.args.signature.now in
    let nodes = c.args.arena.now in
    let facts = c.as_slice-facts.result.now in
    let all = map (λ c. c.items) ground.clauses.items ++ map (λ c. c.items) ground.gates.items in
    ok_too c.found_by_clauses.result _ _
    (λ found h. some_too found _ _
    (λ r k. round_too r _ _ (λ more. (m : Mixture) × AreSolved all m × AreBrokenBy g nodes s.made.terms s.words facts m.values.items more)
    (λ more. (is : IsGroundFor g nodes s ground) → AreNewCongruences g nodes s.made.terms s.words is.cs more)
    (λ x k f ts closed over normal is gr.
    found_as g nodes f ts closed s ground over normal is gr k.0 x c.len-nodes.ensures.placed c.len-terms.ensures.placed
    c.len-terms.ensures.once facts _ c.as_slice-facts.ensures.value refl k.1 k.2.0 k.2.1)
    (λ more k gr.
    broken_as g nodes s ground gr k.0 c.len-nodes.ensures.placed c.len-terms.ensures.placed c.len-terms.ensures.once c.requires.words facts all more
    c.as_slice-facts.ensures.value refl k.1 k.2)
    k) h)
    c.found_by_clauses.ensures.some
