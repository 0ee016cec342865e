use Rattle.ground_terms.proofs.Standing.{one_at}
use Rattle.ground_terms.specs.Nodes.{term_of}
use Rattle.form_tables.specs.Clauses.{alike_clauses}
use Rattle.ground_problem.proofs.Adding.{added_none, added_next, added_all}
use Rattle.ground_problem.proofs.congruences.push_alikes_of.Goals as goal

pub loop-y-init : goal.loop-y-init
loop-y-init c = added_none c.args.source.arena.now c.args.source.terms.now _

pub push_alike-requires-clause-second : goal.push_alike-requires-clause-second
push_alike-requires-clause-second c = one_at c.args.source.terms.now c.args.ids.now c.loop-y.y-index 0 c.requires.ones c.loop-y-test.true

pub loop-y-preserved : goal.loop-y-preserved
loop-y-preserved c =
    let s = c.args.source in
    added_next s.arena.now s.terms.now (alike_clauses s.signature.now (term_of s.terms.now c.args.x)) (term_of s.terms.now) c.args.ids.now c.loop-y.y-index 0 _ _ _ c.loop-y-test.true c.loop-y.invariant c.in_ok-push_alike.ensures

pub returns : goal.returns
returns c =
    let s = c.args.source in
    added_all s.arena.now s.terms.now (alike_clauses s.signature.now (term_of s.terms.now c.args.x)) (term_of s.terms.now) c.args.ids.now c.loop-y.y-index _ _ c.loop-y-test.false c.loop-y.invariant
