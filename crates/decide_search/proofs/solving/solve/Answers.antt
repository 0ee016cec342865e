use Rattle.std.proofs.Common.{map}
use Rattle.decide_search.proofs.Halved.{linked_as}
use Rattle.decide_search.proofs.Solved.{nowhere_by, ok_too}
use Rattle.decide_search.proofs.Taken.{links_within}
use Rattle.decide_search.proofs.solving.solve.Goals as goal

pub returns-clause-none : goal.returns-clause-none
returns-clause-none c =
    ok_too c.solve_with.result _ _
    (λ found h none.
    nowhere_by c.args.reader.signature.now c.args.reader.arena.now c.args.reader.terms.now c.args.reader.words.now c.args.reader.texts.now c.args.ground.vars
    c.args.ground.facts.now c.as_slice-facts.result.now _ (map (λ link. link.items) c.as_slice-links.result.now) c.requires.once
    (linked_as c.args.reader.signature.now c.args.reader.arena.now c.args.reader.terms.now c.args.reader.words.now c.args.reader.texts.now c.args.ground.vars
    c.args.ground.facts.now c.in_ok-halves.halves.facts.items c.as_slice-facts.result.now c.in_ok-halves.halves.links.items c.as_slice-links.result.now (λ link. link.items)
    c.as_slice-facts.ensures.value c.as_slice-links.ensures.value c.in_ok-halves.ensures)
    (h none))
    c.solve_with.ensures.none

pub solve_with-requires-clause-links : goal.solve_with-requires-clause-links
solve_with-requires-clause-links c =
    links_within c.args.reader.signature.now c.args.reader.arena.now c.args.reader.terms.now c.args.reader.words.now c.args.reader.texts.now c.args.ground.vars c.args.ground.facts.now c.as_slice-facts.result.now (map (λ link. link.items) c.as_slice-links.result.now) c.requires.facts
    (linked_as c.args.reader.signature.now c.args.reader.arena.now c.args.reader.terms.now c.args.reader.words.now c.args.reader.texts.now c.args.ground.vars
    c.args.ground.facts.now c.in_ok-halves.halves.facts.items c.as_slice-facts.result.now c.in_ok-halves.halves.links.items c.as_slice-links.result.now (λ link. link.items)
    c.as_slice-facts.ensures.value c.as_slice-links.ensures.value c.in_ok-halves.ensures)
