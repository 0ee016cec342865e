use Rattle.std.proofs.Common.{◌≡◌, ◌∙◌, List, [], ◌∷◌, ◌++◌, sym, ap, subst, ℕ, Bool}
use Rattle.form_formula.specs.declared.evaluation.Frame.{Frame}
use Rattle.form_formula.specs.declared.evaluation.Step.{Step}
use Rattle.form_formula.specs.Nodes.{formula_of}
use Rattle.form_formula.specs.Truth.{truth}
use Rattle.form_formula.specs.Evaluation.{chosen, outcome, step_value, AreWaiting}
use Rattle.form_formula.proofs.MoveLemmas.{outcome-append}
use Rattle.form_formula.proofs.evaluation.evaluate.Goals as goal

pub steps-init : goal.steps-init
steps-init c =
    let s = c.args.structure.now in
    let nodes = c.args.arena.now in
    let frames : List Frame = c.args.waiting.now.frames.items in (
      c.requires.waiting,
      c.requires.formula,
      ap (λ (xs : List ℕ). outcome s nodes [] frames (truth s xs (formula_of nodes c.args.id))) (sym c.requires.waiting.in_step),
    )

pub steps-preserved : goal.steps-preserved
steps-preserved c =
    let s = c.args.structure.now in
    let nodes = c.args.arena.now in
    let frames : List Frame = c.steps.waiting.frames.items in
    let rest : List Frame = c.pop.new.self.items in
    let whole_truth : Bool = outcome s nodes [] c.args.waiting.now.frames.items (truth s c.args.waiting.now.elements.items (formula_of nodes c.args.id)) in
    let A : List Frame → Type 0 = λ fs. AreWaiting nodes fs c.steps.waiting.elements.items in
    let V : List Frame → Type 0 = λ fs. outcome s nodes [] fs c.in-Found.found ≡ whole_truth in
    let W : Step → Type 0 = λ step. outcome s nodes [] frames (step_value s nodes (chosen frames) step) ≡ whole_truth in
    let whole : frames ≡ rest ++ c.in-Some.frame ∷ [] = c.in-Some.ensures.items in
    let found : outcome s nodes [] frames c.in-Found.found ≡ whole_truth = subst W c.in-Found.is c.steps.invariant.2 in
    let move = c.in_ok-step-in-Some.ensures s nodes (subst A whole c.steps.invariant.0) in
    (move.waiting, move.sound, move.same ∙ (sym (outcome-append s nodes [] rest (c.in-Some.frame ∷ []) c.in-Found.found) ∙ subst V whole found))
