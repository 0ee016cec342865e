use Rattle.std.proofs.Common.{◌≡◌, [], List, ℕ, subst, sym}
use Rattle.form_formula.specs.declared.node.Node.{Node}
use Rattle.form_formula.specs.Nodes.{IsPlaced, IsTerm, term_of, tree_of, tree_from, trees_of}
use Rattle.ground_terms.specs.declared.node.TermNode.{TermNode}
use Rattle.ground_terms.specs.Standing.{AreOnes, terms_at}
use Rattle.ground_instances.specs.declared.input.Value.TheVariants.{Literal}
use Rattle.ground_instances.specs.GroundAtoms.{ground_value}
use Rattle.ground_instances.specs.Inputs.{HasValue}
use Rattle.ground_instances.specs.Values.{apply_all}
use Rattle.ground_instances.proofs.ValueLaws.{at_literal, down_app, variable_applied}
use Rattle.ground_instances.proofs.values.value_of.Goals as goal

pub down-preserved : goal.down-preserved
down-preserved c =
    let nodes : List Node = c.args.arena.now in
    let env = terms_at c.args.terms.now c.args.env.now in
    let P : Node → Type 0 = λ n. IsPlaced nodes n in
    let M : Node → Type 0 = λ n. tree_of nodes c.down.at ≡ tree_from (trees_of nodes) n in
    let F : List ℕ → Type 0 =
    λ fs. IsTerm nodes c.in-App.t × (ground_value env (term_of nodes c.args.id) ≡ apply_all fs (ground_value env (term_of nodes c.in-App.t))) × (c.down.terms ≡ c.args.terms.now) in
    subst F (sym c.in_ok-push-in-App.ensures.items) (
      subst P c.in-App.is c.node.ensures.placed,
      down_app nodes env c.down.at c.in-App.f c.in-App.t c.down.functions.items (ground_value env (term_of nodes c.args.id)) (subst M c.in-App.is c.node.ensures.means) c.down.invariant.1,
      c.down.invariant.2,
    )

pub variable-requires : goal.variable-requires
variable-requires c = let A : List TermNode → Type 0 = λ ts. AreOnes ts c.args.env.now in subst A (sym c.down.invariant.2) c.requires.env

pub apply_all-requires : goal.apply_all-requires
apply_all-requires c = (c.in_ok-value-in-Bound.ensures []).fits

pub returns-in-Bound : goal.returns-in-Bound
returns-in-Bound c =
    let nodes : List Node = c.args.arena.now in
    let M : Node → Type 0 = λ n. tree_of nodes c.down.at ≡ tree_from (trees_of nodes) n in
    variable_applied nodes c.args.terms.now c.down.terms _ _ c.args.env.now c.args.id c.down.at c.in-Bound.sort c.in-Bound.depth c.down.functions.items _ _ c.down.invariant.2 (subst M c.in-Bound.is c.node.ensures.means) c.down.invariant.1
    (c.in_ok-value-in-Bound.ensures nodes) (c.in_ok-applied-in-Bound.ensures nodes)

pub returns-in_default : goal.returns-in_default
returns-in_default c =
    let nodes : List Node = c.args.arena.now in
    let env = terms_at c.args.terms.now c.args.env.now in
    let whole = ground_value env (term_of nodes c.args.id) in
    let H : List TermNode → Type 0 = λ ts. HasValue nodes ts c.down.terms whole (Literal c.down.at) in
    subst H c.down.invariant.2
    (at_literal nodes c.down.terms env c.down.at c.node.result.now c.down.functions.items whole c.down.invariant.0 c.node.ensures.node c.node.ensures.means c.in_default.not-App c.in_default.not-Bound c.down.invariant.1)
