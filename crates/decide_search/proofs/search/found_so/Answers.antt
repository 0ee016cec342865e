use Rattle.decide_search.proofs.Glue.{columns_as}
use Rattle.decide_search.proofs.Solved.{ok_too}
use Rattle.decide_search.proofs.search.found_so.Goals as goal

pub returns : goal.returns
returns c =
    ok_too c.found_by.result _ _
    (λ found h.
    columns_as c.args.reader.signature.now c.args.reader.arena.now c.args.reader.terms.now c.args.reader.words.now c.args.ground.facts.now
    c.args.mixture.now.values.items found c.in_ok-columns.columns c.args.pairs.now c.as_slice.result.now
    c.requires.pairs c.as_slice.ensures.value c.requires.words c.in_ok-check_facts.ensures c.in_ok-columns.ensures h)
    c.found_by.ensures
