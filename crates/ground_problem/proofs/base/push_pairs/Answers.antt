use Rattle.form_tables.specs.Clauses.{pair_clauses}
use Rattle.ground_problem.specs.Words.{pair_at}
use Rattle.ground_problem.proofs.Adding.{added_none, added_next, added_all}
use Rattle.ground_problem.proofs.base.push_pairs.Goals as goal

pub loop-pair-init : goal.loop-pair-init
loop-pair-init c = added_none c.args.source.arena.now c.args.source.terms.now _

pub loop-pair-preserved : goal.loop-pair-preserved
loop-pair-preserved c =
    let s = c.args.source in
    added_next s.arena.now s.terms.now (pair_clauses s.signature.now) (pair_at s.terms.now) c.args.pairs.now c.loop-pair.pair-index (record { relation = 0; holder = 0; member = 0 }) _ _ _ c.loop-pair-test.true c.loop-pair.invariant
    c.in_ok-push_pair.ensures

pub returns : goal.returns
returns c =
    let s = c.args.source in
    added_all s.arena.now s.terms.now (pair_clauses s.signature.now) (pair_at s.terms.now) c.args.pairs.now c.loop-pair.pair-index _ _ c.loop-pair-test.false c.loop-pair.invariant
