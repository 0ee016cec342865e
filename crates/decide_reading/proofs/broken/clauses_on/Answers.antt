use Rattle.decide_reading.proofs.Parts.{none_broken}
use Rattle.decide_reading.proofs.broken.clauses_on.Goals as goal

pub returns : goal.returns
returns c =
    let s = c.args.speech in
    c.in_ok-push_each_pairs.ensures
    (c.in_ok-push_each_terms.ensures (none_broken s.signature.now (λ clause. clause.items) s.arena.now s.terms.now s.words.now s.found.now c.new-clauses.result.items c.new-clauses.ensures.items))
