use Rattle.decide_search.proofs.Glue.{broken_by}
use Rattle.decide_search.proofs.search.found_from.Goals as goal

pub returns : goal.returns
returns c =
    let r = c.args.reader in
    let broken = c.in_ok-broken_congruences in
    broken_by r.signature.now r.arena.now r.terms.now r.words.now c.args.ground.facts.now c.args.mixture.now.values.items c.in_ok-found.found broken.field-0
    c.in-Some.clauses c.in-Some.is c.in_ok-found.ensures broken.ensures.some broken.ensures.broken broken.ensures.full
