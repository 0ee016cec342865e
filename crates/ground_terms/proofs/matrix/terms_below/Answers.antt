use Rattle.std.proofs.Common.{◌≡◌, ◌<◌, List, Some, get_or, refl}
use Rattle.std.specs.Prelude.{slice_get}
use Rattle.std.specs.List.{sum_by}
use Rattle.std.proofs.lemmas.Option.{slice_get-get_or}
use Rattle.form_formula.specs.declared.node.Node.{Node}
use Rattle.form_formula.specs.declared.node.Node.TheVariants.{Yes}
use Rattle.form_formula.specs.Nodes.{formula_of}
use Rattle.form_formula.proofs.Placement.{kind_within, parts_below, parts_placed}
use Rattle.form_formula.proofs.TreeLemmas.{tree_of-at}
use Rattle.form_strata.specs.Visits.{steps_of}
use Rattle.ground_terms.specs.declared.matrix.MatrixWalk.{MatrixWalk}
use Rattle.ground_terms.specs.Matrices.{IsMatrix, IsMatrixWalk, terms_below}
use Rattle.ground_terms.proofs.Matrices.{last-matrix, matrix-step}
use Rattle.ground_terms.proofs.matrix.terms_below.Goals as goal

-- the walk after a step, and what is left then
after : (c : goal.In_ok-come_to)
    → IsMatrixWalk c.args.arena.now (terms_below c.args.arena.now c.args.id) c.come_to.new.self
    × (sum_by (λ q. steps_of (formula_of c.args.arena.now q)) c.come_to.new.self.pending.items < sum_by (λ q. steps_of (formula_of c.args.arena.now q)) c.steps.walk.pending.items)
after c =
    let nodes : List Node = c.args.arena.now in
    let p = c.in-Some.next in
    let before : MatrixWalk = record { seen = c.steps.walk.seen; pending = c.pop.new.self; terms = c.steps.walk.terms } in
    let matrix : IsMatrix nodes p = last-matrix nodes c.pop.new.self.items p c.steps.walk.pending.items c.in-Some.ensures.items c.steps.invariant.pending in
    let n : Node = get_or nodes p Yes in
    let at : slice_get nodes p ≡ Some n = slice_get-get_or nodes p Yes (kind_within nodes p _ matrix.formula) in
    let placed = c.len-nodes.ensures.placed in
    matrix-step nodes (terms_below nodes c.args.id) c.steps.walk before c.come_to.new.self p n c.in-Some.ensures.items refl refl c.steps.invariant
    (tree_of-at nodes p n placed at) (parts_placed nodes p n placed at) (parts_below nodes p n placed at) c.in_ok-come_to.ensures

pub steps-preserved : goal.steps-preserved
steps-preserved c = (after c).0

pub steps-smaller : goal.steps-smaller
steps-smaller c = (after c).1
