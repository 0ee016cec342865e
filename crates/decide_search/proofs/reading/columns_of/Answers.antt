use Rattle.decide_search.proofs.RangedLaws.{columns_ranged}
use Rattle.decide_search.proofs.reading.columns_of.Goals as goal

pub returns : goal.returns
returns c =
    columns_ranged c.args.reader.signature.now c.args.reader.terms.now c.columns_by.result c.in_ok-values.values c.columns_by.ensures c.in_ok-values.ensures
