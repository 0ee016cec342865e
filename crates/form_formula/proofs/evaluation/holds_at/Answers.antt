use Rattle.std.proofs.Common.{◌≡◌, ◌+◌, ◌∙◌, List, [], ◌∷◌, ◌++◌, sym, ap, subst, ℕ, Bool, rules}
use Rattle.std.proofs.lemmas.Grind.{common_steps}
use Rattle.form_formula.specs.declared.evaluation.Choice.{Choice}
use Rattle.form_formula.specs.declared.evaluation.Frame.{Frame}
use Rattle.form_formula.specs.declared.evaluation.Frame.TheVariants.{Exists}
use Rattle.form_formula.specs.Evaluation.{outcome, AreWaiting}
use Rattle.form_formula.proofs.MoveLemmas.{only, only_kept, waits_for_one}
use Rattle.form_formula.proofs.evaluation.holds_at.Goals as goal

pub loop-element-preserved : goal.loop-element-preserved
loop-element-preserved c =
    let nodes = c.args.arena.now in
    let x : ℕ = c.in_ok-only_choice.field-0.element in
    let frames : List Frame = c.loop-element.waiting.frames.items in
    let elements : List ℕ = c.loop-element.waiting.elements.items in
    let is_x = ap (λ (d : Choice). d.element) c.in_ok-only_choice.ensures in
    let choice : Exists c.in_ok-only_choice.field-0 ≡ only x c.args.id = ap Exists (c.in_ok-only_choice.ensures ∙ ap (λ (n : ℕ). record { size = n + 1; element = n; body = c.args.id }) (sym is_x)) in
    let later : c.push_choice.new.self.frames.items ≡ frames ++ only x c.args.id ∷ [] = c.in_ok-push_choice.ensures.frames ∙ ap (λ (f : Frame). frames ++ f ∷ []) choice in
    let chosen : c.push_choice.new.self.elements.items ≡ elements ++ x ∷ [] = c.in_ok-push_choice.ensures.elements ∙ ap (λ (n : ℕ). elements ++ n ∷ []) (sym is_x) in
    let W : List Frame → Type 0 = λ fs. AreWaiting nodes fs c.push_choice.new.self.elements.items in
    let V : List ℕ → Type 0 = λ xs. AreWaiting nodes (frames ++ only x c.args.id ∷ []) xs in
    let K : List Frame → Type 0 = λ fs. (b : Bool) → outcome c.args.structure.now nodes [] fs b ≡ b in (
      subst W (sym later) (subst V (sym chosen) (waits_for_one nodes frames elements x c.args.id c.loop-element.invariant.0 c.requires)),
      search (rules, common_steps),
      subst K (sym later) (only_kept c.args.structure.now nodes frames x c.args.id c.loop-element.invariant.2),
    )
