use Rattle.std.proofs.Common.{length}
use Rattle.ground_terms.proofs.Standing.{one_at}
use Rattle.decide_reading.proofs.SettledLaws.{settled_first, settled_none}
use Rattle.decide_reading.proofs.broken_terms.rival_of.Goals as goal

pub key_at-requires : goal.key_at-requires
key_at-requires c = one_at c.args.source.terms.now c.args.ids.now c.args.one 0 c.requires.ones c.requires.one

pub returns-in-None-clause-settled : goal.returns-in-None-clause-settled
returns-in-None-clause-settled c = λ same.
    settled_none c.args.source.terms.now c.args.source.found.now c.args.ids.now _ c.args.one c.in_ok-key.key c.in-None.is c.in_ok-key.ensures

pub have_same_at-requires-clause-first : goal.have_same_at-requires-clause-first
have_same_at-requires-clause-first c = c.in_ok-first-in-Some.ensures.below (length c.args.ids.now) c.requires.one c.requires.below _ c.in_ok-first-in-Some.first c.in_ok-first-in-Some.ensures.is

pub returns-then-have_same_at-clause-below : goal.returns-then-have_same_at-clause-below
returns-then-have_same_at-clause-below c = c.in_ok-first-in-Some.ensures.below (length c.args.ids.now) c.requires.one c.requires.below

pub returns-then-have_same_at-clause-settled : goal.returns-then-have_same_at-clause-settled
returns-then-have_same_at-clause-settled c = λ same.
    settled_first c.args.source.terms.now c.args.source.found.now c.args.ids.now _ c.args.one c.in_ok-first-in-Some.first c.in_ok-key.key c.in-Some.key c.requires.ones c.requires.one
    (c.in_ok-first-in-Some.ensures.below (length c.args.ids.now) c.requires.one c.requires.below _ c.in_ok-first-in-Some.first c.in_ok-first-in-Some.ensures.is) c.in-Some.is c.in_ok-key.ensures c.in_ok-first-in-Some.ensures.is
    (c.have_same_at.ensures c.if-have_same_at.true)

pub returns-else-have_same_at-clause-below : goal.returns-else-have_same_at-clause-below
returns-else-have_same_at-clause-below c = c.in_ok-first-in-Some.ensures.below (length c.args.ids.now) c.requires.one c.requires.below

pub returns-else-have_same_at-clause-within : goal.returns-else-have_same_at-clause-within
returns-else-have_same_at-clause-within c = c.in_ok-first-in-Some.ensures.below (length c.args.ids.now) c.requires.one c.requires.below _ c.in_ok-first-in-Some.first c.in_ok-first-in-Some.ensures.is
