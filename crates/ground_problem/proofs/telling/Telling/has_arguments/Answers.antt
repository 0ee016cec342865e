use Rattle.ground_terms.specs.Standing.{terms_at}
use Rattle.ground_terms.proofs.Placement.{kind_within}
use Rattle.std.proofs.Common.{false}
use Rattle.ground_problem.proofs.TellingLaws.{left_begun, left_on, left_done}
use Rattle.ground_problem.proofs.telling.Telling.has_arguments.Goals as goal

pub loop-sort-init : goal.loop-sort-init
loop-sort-init c = left_begun c.args.signature.now c.args.terms.now (terms_at c.args.terms.now c.args.self.now.named.items) c.args.sorts.now c.args.list c.requires.list

pub node-requires : goal.node-requires
node-requires c = kind_within c.args.terms.now c.loop-sort.at false c.loop-sort.invariant.fits

pub loop-sort-preserved : goal.loop-sort-preserved
loop-sort-preserved c =
    let found = c.has_sort.ensures c.if-not-has_sort.false in
    left_on c.args.signature.now c.args.terms.now (terms_at c.args.terms.now c.args.self.now.named.items) c.args.sorts.now c.args.list c.loop-sort.at c.in-Cons.t c.in-Cons.ts c.loop-sort.sort-index 0 c.loop-sort-test.true
    c.in-Cons.ensures.placed c.in-Cons.ensures.means found.1 found.2 c.loop-sort.invariant

pub node-requires-2 : goal.node-requires-2
node-requires-2 c = kind_within c.args.terms.now c.loop-sort.at false c.loop-sort.invariant.fits

pub returns-in-Empty : goal.returns-in-Empty
returns-in-Empty c = λ yes.
    left_done c.args.signature.now c.args.terms.now (terms_at c.args.terms.now c.args.self.now.named.items) c.args.sorts.now c.args.list c.loop-sort.at c.loop-sort.sort-index c.loop-sort-test.false c.in-Empty.ensures.means
    c.loop-sort.invariant
