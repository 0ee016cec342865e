use Rattle.ground_terms.proofs.Standing.{one_at}
use Rattle.ground_terms.specs.Nodes.{term_of}
use Rattle.form_tables.specs.Clauses.{sort_clauses}
use Rattle.ground_problem.proofs.Adding.{added_none, added_next, added_all}
use Rattle.ground_problem.proofs.base.push_sorts.Goals as goal

pub loop-id-init : goal.loop-id-init
loop-id-init c = added_none c.args.source.arena.now c.args.source.terms.now _

pub push_sort-requires : goal.push_sort-requires
push_sort-requires c = one_at c.args.source.terms.now c.args.ids.now c.loop-id.id-index 0 c.requires c.loop-id-test.true

pub loop-id-preserved : goal.loop-id-preserved
loop-id-preserved c =
    let s = c.args.source in
    added_next s.arena.now s.terms.now (sort_clauses s.signature.now) (term_of s.terms.now) c.args.ids.now c.loop-id.id-index 0 _ _ _ c.loop-id-test.true c.loop-id.invariant c.in_ok-push_sort.ensures

pub returns : goal.returns
returns c =
    let s = c.args.source in
    added_all s.arena.now s.terms.now (sort_clauses s.signature.now) (term_of s.terms.now) c.args.ids.now c.loop-id.id-index _ _ c.loop-id-test.false c.loop-id.invariant
