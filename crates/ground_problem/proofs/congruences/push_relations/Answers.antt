use Rattle.std.proofs.Common.{List, map}
use Rattle.std.specs.List.{flat_map}
use Rattle.form_tables.specs.Clauses.{relation_clauses}
use Rattle.form_tables.specs.Facts.{Clause}
use Rattle.form_tables.specs.Vocabulary.{Pair}
use Rattle.ground_problem.specs.Words.{pair_at}
use Rattle.ground_problem.proofs.Adding.{added_none, added_next, added_all}
use Rattle.ground_problem.proofs.congruences.push_relations.Goals as goal

pub loop-p-init : goal.loop-p-init
loop-p-init c = added_none c.args.source.arena.now c.args.source.terms.now _

pub loop-p-preserved : goal.loop-p-preserved
loop-p-preserved c =
    let s = c.args.source in
    let f : Pair → List Clause = λ p. flat_map (relation_clauses s.signature.now p) (map (pair_at s.terms.now) c.args.pairs.now) in
    added_next s.arena.now s.terms.now f (pair_at s.terms.now) c.args.pairs.now c.loop-p.p-index (record { relation = 0; holder = 0; member = 0 }) _ _ _ c.loop-p-test.true c.loop-p.invariant c.in_ok-push_relations_of.ensures

pub returns : goal.returns
returns c =
    let s = c.args.source in
    let f : Pair → List Clause = λ p. flat_map (relation_clauses s.signature.now p) (map (pair_at s.terms.now) c.args.pairs.now) in
    added_all s.arena.now s.terms.now f (pair_at s.terms.now) c.args.pairs.now c.loop-p.p-index _ _ c.loop-p-test.false c.loop-p.invariant
