use Rattle.std.proofs.Common.{◌≡◌, ◌∷◌, ◌++◌, [], false, ◌∙◌, sym, ap, List, ℕ, Bool, rules}
use Rattle.std.proofs.lemmas.Grind.{common_steps}
use Rattle.form_formula.specs.Nodes.{formula_of}
use Rattle.form_formula.specs.Truth.{truth}
use Rattle.decide_smaller.proofs.Picked.{none_more}
use Rattle.decide_smaller.proofs.picking.pick.Goals as goal

pub loop-element-preserved : goal.loop-element-preserved
loop-element-preserved c =
    let p : ℕ → Bool = λ x. truth c.args.structure.now (c.args.picks.now.items ++ x ∷ []) (formula_of c.args.arena.now c.args.body) in
    let fails : p c.loop-element.element ≡ false =
    ap (λ (xs : List ℕ). truth c.args.structure.now xs (formula_of c.args.arena.now c.args.body))
    (ap (λ (xs : List ℕ). xs ++ c.loop-element.element ∷ []) (sym c.loop-element.invariant.0) ∙ (sym c.in_ok-push.ensures.items ∙ sym c.as_slice.ensures.value))
    ∙ (sym c.in_ok-holds_at.ensures ∙ c.if-branch.false) in
    (search (rules, common_steps), none_more p c.loop-element.element c.loop-element.invariant.1 fails)
