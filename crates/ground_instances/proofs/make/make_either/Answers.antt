use Rattle.std.proofs.Common.{◌≡◌, ◌∙◌, ◌+◌, ◌||◌, ap, refl}
use Rattle.form_formula.specs.Nodes.{formula_of}
use Rattle.form_terms.specs.Parts.{quantifiers}
use Rattle.ground_terms.proofs.Standing.{ones_kept}
use Rattle.ground_instances.proofs.MakeLaws.{first_there, found_there, two_gates}
use Rattle.ground_instances.proofs.ShapeLaws.{formula_shape}
use Rattle.ground_instances.proofs.make.make_either.Goals as goal

pub seek-requires-2-clause-variables : goal.seek-requires-2-clause-variables
seek-requires-2-clause-variables c = ones_kept c.args.work.now.board.terms _ c.args.above.variables.now c.in_ok-right.ensures.grows.terms c.requires.variables

pub seek-requires-2-clause-arguments : goal.seek-requires-2-clause-arguments
seek-requires-2-clause-arguments c = ones_kept c.args.work.now.board.terms _ c.args.above.arguments.now c.in_ok-right.ensures.grows.terms c.requires.arguments

pub seek-requires-2-clause-ready : goal.seek-requires-2-clause-ready
seek-requires-2-clause-ready c = c.in_ok-right.ensures.ready

pub join_either-requires-clause-left : goal.join_either-requires-clause-left
join_either-requires-clause-left c =
    let s = c.args.source in found_there s.signature.now s.arena.now s.shapes.now s.listed.now _ _ _ c.in_ok-left.left c.in_ok-left.ensures

pub join_either-requires-clause-right : goal.join_either-requires-clause-right
join_either-requires-clause-right c =
    let s = c.args.source in
    first_there s.signature.now s.arena.now s.shapes.now s.listed.now _ _ _ _ c.args.work.now c.in_ok-right.right c.in_ok-left.left c.in_ok-right.ensures c.in_ok-left.ensures

pub returns-then-is_none : goal.returns-then-is_none
returns-then-is_none c = record { ready = c.in_ok-right.ensures.ready; grows = c.in_ok-right.ensures.grows; means = tt }

pub returns : goal.returns
returns c =
    let s = c.args.source in
    let nodes = s.arena.now in
    let shape = formula_shape nodes c.requires.ready.placed s.shapes.now c.requires.ready.shaped c.args.a c.requires.left c.requires.within.0 in
    let passed : c.in_ok-number.number ≡ c.args.above.number + quantifiers (formula_of nodes c.args.a) = c.in_ok-number.ensures ∙ ap (λ n. c.args.above.number + n) shape.1 in
    two_gates s.signature.now nodes s.shapes.now s.listed.now (λ a b. a || b) c.args.work.now _ _ _ c.args.above.variables.now c.args.above.arguments.now c.args.above.number c.in_ok-number.number
    (formula_of nodes c.args.a) (formula_of nodes c.args.b) c.in_ok-left.left c.in_ok-right.right c.in_ok-gate.gate c.requires.ready c.requires.variables c.requires.arguments passed c.in_ok-right.ensures c.in_ok-left.ensures
    c.in_ok-gate.ensures refl refl
