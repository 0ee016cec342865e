use Rattle.form_tables.specs.Clauses.{relation_clauses}
use Rattle.ground_problem.specs.Words.{pair_at}
use Rattle.ground_problem.proofs.Adding.{added_none, added_next, added_all}
use Rattle.ground_problem.proofs.congruences.push_relations_of.Goals as goal

pub loop-q-init : goal.loop-q-init
loop-q-init c = added_none c.args.source.arena.now c.args.source.terms.now _

pub loop-q-preserved : goal.loop-q-preserved
loop-q-preserved c =
    let s = c.args.source in
    added_next s.arena.now s.terms.now (relation_clauses s.signature.now (pair_at s.terms.now c.args.p)) (pair_at s.terms.now) c.args.pairs.now c.loop-q.q-index (record { relation = 0; holder = 0; member = 0 }) _ _ _ c.loop-q-test.true
    c.loop-q.invariant c.in_ok-push_relation.ensures

pub returns : goal.returns
returns c =
    let s = c.args.source in
    added_all s.arena.now s.terms.now (relation_clauses s.signature.now (pair_at s.terms.now c.args.p)) (pair_at s.terms.now) c.args.pairs.now c.loop-q.q-index _ _ c.loop-q-test.false c.loop-q.invariant
