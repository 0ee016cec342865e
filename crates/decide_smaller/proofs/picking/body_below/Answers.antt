use Rattle.std.proofs.Common.{subst, sym, take, take_all, List, ℕ}
use Rattle.form_formula.specs.Nodes.{formula_of}
use Rattle.form_terms.specs.Satisfying.{AreElements, leading_sorts}
use Rattle.decide_smaller.proofs.Picked.{none_leads, picked_all}
use Rattle.decide_smaller.proofs.picking.body_below.Goals as goal

pub returns-in_default-node : goal.returns-in_default-node
returns-in_default-node c =
    let s = c.args.structure.now in
    let f = formula_of c.args.arena.now c.args.id in
    let all = picked_all s f (formula_of c.args.arena.now c.loop-pick.at) (take c.loop-pick.pick-index c.args.picks.now) c.loop-pick.invariant.1 (none_leads c.args.arena.now c.loop-pick.at c.node-2.result.now c.node-2.ensures.means c.in_default-node.not-Exists) in
    record {
      formula = c.loop-pick.invariant.0;
      elements = subst (λ (xs : List ℕ). AreElements s (leading_sorts f) xs) (take_all c.loop-pick.pick-index c.args.picks.now c.loop-pick-test.false) all.0;
      body = sym all.1;
    }
