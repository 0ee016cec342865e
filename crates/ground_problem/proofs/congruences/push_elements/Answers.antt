use Rattle.std.proofs.Common.{List}
use Rattle.std.specs.List.{flat_map}
use Rattle.form_terms.specs.GroundTerms.{GroundTerm}
use Rattle.ground_terms.specs.Standing.{terms_at}
use Rattle.ground_terms.proofs.Standing.{one_at}
use Rattle.ground_terms.specs.Nodes.{term_of}
use Rattle.form_tables.specs.Clauses.{element_clauses}
use Rattle.form_tables.specs.Facts.{Clause}
use Rattle.ground_problem.proofs.Adding.{added_none, added_next, added_all}
use Rattle.ground_problem.proofs.congruences.push_elements.Goals as goal

pub loop-x-init : goal.loop-x-init
loop-x-init c = added_none c.args.source.arena.now c.args.source.terms.now _

pub push_elements_of-requires-clause-one : goal.push_elements_of-requires-clause-one
push_elements_of-requires-clause-one c = one_at c.args.source.terms.now c.args.ids.now c.loop-x.x-index 0 c.requires c.loop-x-test.true

pub loop-x-preserved : goal.loop-x-preserved
loop-x-preserved c =
    let s = c.args.source in
    let f : GroundTerm → List Clause = λ t. flat_map (element_clauses s.signature.now t) (terms_at s.terms.now c.args.ids.now) in
    added_next s.arena.now s.terms.now f (term_of s.terms.now) c.args.ids.now c.loop-x.x-index 0 _ _ _ c.loop-x-test.true c.loop-x.invariant c.in_ok-push_elements_of.ensures

pub returns : goal.returns
returns c =
    let s = c.args.source in
    let f : GroundTerm → List Clause = λ t. flat_map (element_clauses s.signature.now t) (terms_at s.terms.now c.args.ids.now) in
    added_all s.arena.now s.terms.now f (term_of s.terms.now) c.args.ids.now c.loop-x.x-index _ _ c.loop-x-test.false c.loop-x.invariant
