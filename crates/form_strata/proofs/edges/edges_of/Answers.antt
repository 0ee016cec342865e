use Rattle.std.proofs.Common.{◌≡◌, ◌<◌, ◌+◌, ◌∙◌, List, Some, arith, false, get_or, length, refl}
use Rattle.std.specs.Prelude.{slice_get}
use Rattle.std.proofs.lemmas.List.Elements.{All-contains}
use Rattle.std.proofs.lemmas.Option.{slice_get-get_or}
use Rattle.form_formula.specs.declared.node.Node.{Node}
use Rattle.form_formula.specs.declared.node.Node.TheVariants.{Yes}
use Rattle.form_formula.specs.Nodes.{formula_of}
use Rattle.form_formula.proofs.Placement.{kind_within, parts_below, parts_placed}
use Rattle.form_formula.proofs.TreeLemmas.{tree_of-at}
use Rattle.form_strata.specs.declared.visit.Above.TheVariants.{Exists}
use Rattle.form_strata.specs.declared.visit.Visit.{Visit}
use Rattle.form_strata.specs.SortGraph.{edges_of}
use Rattle.form_strata.specs.Visits.{IsVisit, IsWalkOf, steps_left}
use Rattle.form_strata.proofs.SoughtLaws.{sought_are_edges}
use Rattle.form_strata.proofs.VisitLaws.{next_is, walk_begun, walk_done, walk_step}
use Rattle.form_strata.proofs.edges.edges_of.Goals as goal

pub steps-init : goal.steps-init
steps-init c =
    let g = c.args.signature.now in
    let f = formula_of c.args.arena.now c.args.id in
    walk_begun g c.args.arena.now (record { id = c.args.id; above = Exists 0 }) (edges_of g f) c.new.result.keys c.come_to.new.self c.new.ensures.len c.in_ok-come_to.ensures.visits
    (c.in_ok-come_to.ensures.edges ∙ c.new-2.ensures.items) c.requires refl (sought_are_edges g f).0

pub expand-requires : goal.expand-requires
expand-requires c =
    let g = c.args.signature.now in
    let nodes : List Node = c.args.arena.now in
    let keys : List Visit = c.steps.walk.visits.keys in
    let v : Visit = get_or c.as_slice.result.now c.steps.next (record { id = 0; above = Exists 0 }) in
    let lt : c.steps.next < length keys = omega (arith, c.steps-test.true, c.len.ensures.len) in
    let is = next_is g nodes keys c.as_slice.result.now c.steps.next (record { id = 0; above = Exists 0 }) c.as_slice.ensures.keys lt in
    let here = All-contains (IsVisit g nodes c.args.id (edges_of g (formula_of nodes c.args.id))) keys v c.steps.invariant.visits (c.steps.next, lt, is) in
    (slice_get-get_or nodes v.id Yes (kind_within nodes v.id false here.formula), omega (arith, here.room, c.ranges.id))

-- the walk after a step, and what is left then
after : (c : goal.In_ok-expand)
    → IsWalkOf c.args.signature.now c.args.arena.now (record { id = c.args.id; above = Exists 0 }) (edges_of c.args.signature.now (formula_of c.args.arena.now c.args.id)) (c.steps.next + 1) c.expand.new.walk
    × (steps_left c.args.arena.now (c.steps.next + 1) c.expand.new.walk < steps_left c.args.arena.now c.steps.next c.steps.walk)
after c =
    let g = c.args.signature.now in
    let nodes : List Node = c.args.arena.now in
    let keys : List Visit = c.steps.walk.visits.keys in
    let v : Visit = get_or c.as_slice.result.now c.steps.next (record { id = 0; above = Exists 0 }) in
    let lt : c.steps.next < length keys = omega (arith, c.steps-test.true, c.len.ensures.len) in
    let is = next_is g nodes keys c.as_slice.result.now c.steps.next (record { id = 0; above = Exists 0 }) c.as_slice.ensures.keys lt in
    let here = All-contains (IsVisit g nodes c.args.id (edges_of g (formula_of nodes c.args.id))) keys v c.steps.invariant.visits (c.steps.next, lt, is) in
    let n : Node = get_or nodes v.id Yes in
    let at : slice_get nodes v.id ≡ Some n = slice_get-get_or nodes v.id Yes (kind_within nodes v.id false here.formula) in
    let placed = c.len-nodes.ensures.placed in
    walk_step g nodes (record { id = c.args.id; above = Exists 0 }) (edges_of g (formula_of nodes c.args.id)) c.steps.next c.steps.walk c.expand.new.walk v n c.steps.invariant lt is
    (tree_of-at nodes v.id n placed at) (parts_placed nodes v.id n placed at) (parts_below nodes v.id n placed at) c.in_ok-expand.ensures

pub steps-preserved : goal.steps-preserved
steps-preserved c = (after c).0

pub steps-smaller : goal.steps-smaller
steps-smaller c = (after c).1

pub returns : goal.returns
returns c =
    let g = c.args.signature.now in
    let f = formula_of c.args.arena.now c.args.id in
    walk_done g c.args.arena.now (record { id = c.args.id; above = Exists 0 }) (edges_of g f) c.steps.next c.steps.walk c.steps.invariant (omega (arith, c.steps-test.false, c.len.ensures.len)) (sought_are_edges g f).1
