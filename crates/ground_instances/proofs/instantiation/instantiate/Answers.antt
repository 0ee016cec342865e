use Rattle.std.proofs.Common.{◌<◌, List, ℕ, length, ap, subst, sym, ◌∙◌, arith}
use Rattle.form_formula.specs.Nodes.{formula_of}
use Rattle.ground_terms.specs.declared.node.TermNode.{TermNode}
use Rattle.ground_terms.specs.Standing.{AreTermsAt}
use Rattle.ground_terms.specs.TermLists.{terms_in}
use Rattle.ground_instances.specs.declared.shapes.Shape.{Shape}
use Rattle.ground_instances.specs.Shapes.{AreShapes}
use Rattle.ground_instances.proofs.ShapeLaws.{formula_shape}
use Rattle.ground_instances.proofs.WorkLaws.{work_begun, work_on, work_done}
use Rattle.ground_instances.proofs.instantiation.instantiate.Goals as goal

pub steps-init : goal.steps-init
steps-init c =
    let nodes = c.args.arena.now in
    let shapes : List Shape = c.as_slice.result.now in
    let listed : List ℕ = c.as_slice-2.result.now in
    let ts = terms_in c.args.terms in
    let blank = c.in_ok-new.ensures in
    let S : List Shape → Type 0 = λ xs. AreShapes nodes xs in
    let shaped : AreShapes nodes shapes = subst S (sym c.as_slice.ensures.value) c.in_ok-shapes.ensures.shapes in
    let within : c.args.id < length shapes = omega (arith, ap length c.as_slice.ensures.value, c.in_ok-shapes.ensures.size) in
    let L : List ℕ → Type 0 = λ ids. AreTermsAt c.in_ok-new.field-0.terms ids ts in
    let B : List TermNode → Type 0 = λ terms. AreTermsAt terms c.into_parts-terms.result.1.items ts in
    let stand : AreTermsAt c.in_ok-new.field-0.terms listed ts = subst L (sym c.as_slice-2.ensures.value) (subst B (sym blank.terms) c.into_parts-terms.ensures) in
    work_begun c.args.signature.now nodes shapes listed ts c.args.id _ c.in_ok-root.root c.in_ok-new.field-0.terms _ c.requires within c.len-nodes.ensures.placed shaped
    (formula_shape nodes c.len-nodes.ensures.placed shapes shaped c.args.id c.requires within) stand c.in_ok-root.ensures blank.inputs blank.gates c.new-2.ensures c.new-3.ensures.items

pub steps-preserved : goal.steps-preserved
steps-preserved c =
    work_on c.args.signature.now c.args.arena.now c.as_slice.result.now c.as_slice-2.result.now (terms_in c.args.terms) (formula_of c.args.arena.now c.args.id) c.in_ok-root.root c.steps.work c.step.new.work c.in_ok-step.ensures c.steps.invariant

pub returns-in-Some : goal.returns-in-Some
returns-in-Some c =
    work_done c.args.signature.now c.args.arena.now c.as_slice.result.now c.as_slice-2.result.now (terms_in c.args.terms) (formula_of c.args.arena.now c.args.id) c.in_ok-root.root c.steps.work c.in-Some.gate _ c.steps.invariant
    c.in-Some.ensures c.finished.ensures.terms c.finished.ensures.inputs c.finished.ensures.gates c.finished.ensures.root (c.finished.ensures.listed ∙ sym c.as_slice-2.ensures.value)
