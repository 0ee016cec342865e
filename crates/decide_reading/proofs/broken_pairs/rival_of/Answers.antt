use Rattle.std.proofs.Common.{length}
use Rattle.decide_reading.proofs.PairLaws.{holder_at, member_at}
use Rattle.decide_reading.proofs.SettledLaws.{pair_settled_first, pair_settled_none}
use Rattle.decide_reading.proofs.broken_pairs.rival_of.Goals as goal

pub pair_key_at-requires-clause-holder : goal.pair_key_at-requires-clause-holder
pair_key_at-requires-clause-holder c = holder_at c.args.source.terms.now c.args.pairs.now c.args.one _ c.requires.pairs c.requires.one

pub pair_key_at-requires-clause-member : goal.pair_key_at-requires-clause-member
pair_key_at-requires-clause-member c = member_at c.args.source.terms.now c.args.pairs.now c.args.one _ c.requires.pairs c.requires.one

pub returns-in-None-clause-settled : goal.returns-in-None-clause-settled
returns-in-None-clause-settled c = λ same.
    pair_settled_none c.args.source.terms.now c.args.source.found.now c.args.pairs.now _ c.args.one _ c.pair_key_at.result c.in-None.is c.pair_key_at.ensures

pub returns-then-are_alike-clause-below : goal.returns-then-are_alike-clause-below
returns-then-are_alike-clause-below c = c.in_ok-first-in-Some.ensures.below (length c.args.pairs.now) c.requires.one c.requires.below

pub returns-then-are_alike-clause-settled : goal.returns-then-are_alike-clause-settled
returns-then-are_alike-clause-settled c = λ same.
    pair_settled_first c.args.source.terms.now c.args.source.found.now c.args.pairs.now _ c.args.one c.in_ok-first-in-Some.first _ c.pair_key_at.result c.in-Some.key c.in-Some.is c.pair_key_at.ensures
    c.in_ok-first-in-Some.ensures.is (c.are_alike.ensures c.if-are_alike.true)

pub returns-else-are_alike-clause-below : goal.returns-else-are_alike-clause-below
returns-else-are_alike-clause-below c = c.in_ok-first-in-Some.ensures.below (length c.args.pairs.now) c.requires.one c.requires.below

pub returns-else-are_alike-clause-within : goal.returns-else-are_alike-clause-within
returns-else-are_alike-clause-within c = c.in_ok-first-in-Some.ensures.below (length c.args.pairs.now) c.requires.one c.requires.below _ c.in_ok-first-in-Some.first c.in_ok-first-in-Some.ensures.is
