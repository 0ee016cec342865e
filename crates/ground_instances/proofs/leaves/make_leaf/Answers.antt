use Rattle.std.proofs.Common.{◌≡◌, ◌∙◌, true, ap, subst, sym}
use Rattle.form_formula.specs.declared.node.Node.{Node}
use Rattle.form_formula.specs.Nodes.{formula_of, formula_part, tree_of, tree_from, trees_of}
use Rattle.form_formula.specs.Trees.{Formula}
use Rattle.ground_instances.specs.Instances.{part_test, signed_test}
use Rattle.ground_instances.proofs.BoardLaws.{grows_none}
use Rattle.ground_instances.proofs.InstanceLaws.{from_later}
use Rattle.ground_instances.proofs.MakeLaws.{other_node}
use Rattle.ground_instances.proofs.leaves.make_leaf.Goals as goal

pub returns-in_ok-gate-in-Yes : goal.returns-in_ok-gate-in-Yes
returns-in_ok-gate-in-Yes c =
    let s = c.args.source in
    let g = s.signature.now in
    let nodes = s.arena.now in
    let w = c.args.work.now in
    let M : Node → Type 0 = λ n. tree_of nodes c.args.node ≡ tree_from (trees_of nodes) n in
    let is = ap formula_part (subst M c.in-Yes.is c.node.ensures.means) in
    from_later g nodes s.shapes.now s.listed.now w w _ (λ is_there holds. true)
    (part_test g w.board.terms s.listed.now c.args.above.number c.args.above.variables.now c.args.above.arguments.now (formula_of nodes c.args.node)) c.in_ok-gate-in-Yes.gate (grows_none w.board)
    (λ i h. sym (ap (λ (f : Formula). part_test g w.board.terms s.listed.now c.args.above.number c.args.above.variables.now c.args.above.arguments.now f i h) is))
    (c.in_ok-gate-in-Yes.ensures g nodes s.shapes.now s.listed.now c.requires.ready)

pub returns-in_ok-gate-in-Not : goal.returns-in_ok-gate-in-Not
returns-in_ok-gate-in-Not c =
    let s = c.args.source in
    let g = s.signature.now in
    let nodes = s.arena.now in
    let w = c.args.work.now in
    let M : Node → Type 0 = λ n. tree_of nodes c.args.node ≡ tree_from (trees_of nodes) n in
    let is = ap formula_part (subst M c.in-Not.is c.node.ensures.means) in
    from_later g nodes s.shapes.now s.listed.now w w _ _
    (part_test g w.board.terms s.listed.now c.args.above.number c.args.above.variables.now c.args.above.arguments.now (formula_of nodes c.args.node)) c.in_ok-gate-in-Not.gate (grows_none w.board)
    (λ i h. sym (ap (λ (f : Formula). part_test g w.board.terms s.listed.now c.args.above.number c.args.above.variables.now c.args.above.arguments.now f i h) is))
    c.in_ok-gate-in-Not.ensures

pub returns-in_ok-gate-in_default : goal.returns-in_ok-gate-in_default
returns-in_ok-gate-in_default c =
    let s = c.args.source in
    let g = s.signature.now in
    let nodes = s.arena.now in
    let w = c.args.work.now in
    let is = ap formula_part c.node.ensures.means in
    let P = part_test g w.board.terms s.listed.now c.args.above.number c.args.above.variables.now c.args.above.arguments.now in
    let S = signed_test true w.board.terms c.args.above.variables.now in
    from_later g nodes s.shapes.now s.listed.now w w _ (S (formula_of nodes c.args.node)) (P (formula_of nodes c.args.node)) c.in_ok-gate-in_default.gate (grows_none w.board)
    (λ i h.
    ap (λ (f : Formula). S f i h) is
    ∙ (other_node g nodes s.shapes.now s.listed.now w.board.terms c.args.above.variables.now c.args.above.arguments.now c.args.above.number c.node.result.now c.in_default.not-Yes c.in_default.not-Not c.in_default.not-And
    c.in_default.not-Or c.in_default.not-Exists c.in_default.not-Forall i h
    ∙ sym (ap (λ (f : Formula). P f i h) is)))
    c.in_ok-gate-in_default.ensures

pub returns-in-And : goal.returns-in-And
returns-in-And c = record { ready = c.requires.ready; grows = grows_none c.args.work.now.board; means = tt }

pub returns-in-And-2 : goal.returns-in-And-2
returns-in-And-2 c = record { ready = c.requires.ready; grows = grows_none c.args.work.now.board; means = tt }

pub returns-in-And-3 : goal.returns-in-And-3
returns-in-And-3 c = record { ready = c.requires.ready; grows = grows_none c.args.work.now.board; means = tt }

pub returns-in-And-4 : goal.returns-in-And-4
returns-in-And-4 c = record { ready = c.requires.ready; grows = grows_none c.args.work.now.board; means = tt }
