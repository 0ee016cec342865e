use Rattle.decide_search.proofs.RangedLaws.{none_ranged, ranged_as}
use Rattle.decide_search.proofs.Solved.{ok_too}
use Rattle.decide_search.proofs.reading.value_of.Goals as goal

pub returns-in-Some : goal.returns-in-Some
returns-in-Some c =
    ok_too c.value_in.result _ _
    (λ value h. ranged_as c.args.source.reader.signature.now c.args.source.reader.terms.now c.args.id c.in-Some.range value c.in-Some.ensures.range h)
    c.value_in.ensures

pub returns-in-None : goal.returns-in-None
returns-in-None c = none_ranged c.args.source.reader.signature.now c.args.source.reader.terms.now c.args.id _ c.in-None.ensures.all
