use Rattle.std.proofs.Common.{true, refl}
use Rattle.form_formula.specs.Nodes.{formula_of}
use Rattle.ground_terms.proofs.Standing.{one_at, one_kept, ones_kept}
use Rattle.ground_instances.proofs.MakeLaws.{each_more, one_made}
use Rattle.ground_instances.proofs.make.make_each.Goals as goal

pub loop-t-init : goal.loop-t-init
loop-t-init c =
    let s = c.args.source in
    let g = s.signature.now in
    let nodes = s.arena.now in
    let w = c.args.work.now in
    one_made g nodes s.shapes.now s.listed.now w _ (λ is_there holds. true) c.in_ok-yes.yes c.requires.ready c.in_ok-yes.ensures.grows refl refl (c.in_ok-yes.ensures.means nodes)

pub make_one-requires-clause-term : goal.make_one-requires-clause-term
make_one-requires-clause-term c =
    one_kept c.args.work.now.board.terms _ _ c.loop-t.invariant.grows.terms (one_at c.args.work.now.board.terms c.args.choices.now c.loop-t.t-index 0 c.requires.choices c.loop-t-test.true)

pub make_one-requires-clause-variables : goal.make_one-requires-clause-variables
make_one-requires-clause-variables c = ones_kept c.args.work.now.board.terms _ c.args.above.variables.now c.loop-t.invariant.grows.terms c.requires.variables

pub make_one-requires-clause-arguments : goal.make_one-requires-clause-arguments
make_one-requires-clause-arguments c = ones_kept c.args.work.now.board.terms _ c.args.above.arguments.now c.loop-t.invariant.grows.terms c.requires.arguments

pub loop-t-preserved : goal.loop-t-preserved
loop-t-preserved c =
    let s = c.args.source in
    let g = s.signature.now in
    let nodes = s.arena.now in
    let w = c.args.work.now in
    each_more g nodes s.shapes.now s.listed.now w c.loop-t.work c.make_one.new.work _ c.args.above.variables.now c.args.above.arguments.now c.args.choices.now c.args.above.number c.loop-t.t-index (formula_of nodes c.args.a)
    c.loop-t.whole c.in_ok-one.one c.in_ok-whole.whole c.requires.ready c.requires.variables c.requires.arguments
    (one_at w.board.terms c.args.choices.now c.loop-t.t-index 0 c.requires.choices c.loop-t-test.true) c.loop-t-test.true c.loop-t.invariant c.in_ok-one.ensures c.in_ok-whole.ensures refl refl
