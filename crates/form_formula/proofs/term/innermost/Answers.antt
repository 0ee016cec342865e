use Rattle.std.proofs.Common.{◌≡◌, ◌∙◌, sym, ap, subst, List, ℕ}
use Rattle.form_formula.specs.declared.node.Node.{Node}
use Rattle.form_formula.specs.Nodes.{term_of, tree_of, tree_from, trees_of, IsPlaced}
use Rattle.form_formula.specs.Truth.{value_of}
use Rattle.form_formula.specs.Values.{applied}
use Rattle.form_formula.proofs.TermLemmas.{applied-push, value_at-app, value_at-own}
use Rattle.form_formula.proofs.term.innermost.Goals as goal

pub loop-f-preserved : goal.loop-f-preserved
loop-f-preserved c =
    let nodes : List Node = c.args.reading.arena.now in
    let s = c.args.reading.structure.now in
    let env : List ℕ = c.args.reading.elements.now in
    let fs : List ℕ = c.loop-f.functions.items in
    let P : Node → Type 0 = λ n. IsPlaced nodes n in
    let M : Node → Type 0 = λ n. tree_of nodes c.loop-f.at ≡ tree_from (trees_of nodes) n in (
      subst P c.in-App.is c.node.ensures.placed,
      ap (λ gs. applied s gs (value_of s env (term_of nodes c.in-App.t))) c.in_ok-push-in-App.ensures.items
          ∙ (applied-push s fs c.in-App.f (value_of s env (term_of nodes c.in-App.t))
          ∙ (ap (λ v. applied s fs v) (sym (value_at-app s env nodes c.loop-f.at c.in-App.f c.in-App.t (subst M c.in-App.is c.node.ensures.means)))
          ∙ c.loop-f.invariant.1)),
    )

pub returns-in_default : goal.returns-in_default
returns-in_default c =
    let nodes : List Node = c.args.reading.arena.now in
    let s = c.args.reading.structure.now in
    let env : List ℕ = c.args.reading.elements.now in
    let fs : List ℕ = c.loop-f.functions.items in
    ap (λ v. applied s fs v)
    (c.own_value.ensures
    ∙ sym (value_at-own s env nodes c.loop-f.at c.node.result.now c.node.ensures.node c.node.ensures.means c.loop-f.invariant.0 c.in_default.not-App))
    ∙ c.loop-f.invariant.1
