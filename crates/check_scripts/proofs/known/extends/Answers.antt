use Rattle.std.proofs.Common.{◌≡◌, true, sym, subst, rules}
use Rattle.std.specs.Prelude.{Some, slice_get}
use Rattle.form_formula.specs.declared.node.Node.{Node}
use Rattle.form_formula.specs.contracts.node.NodePartialEq.TheImpl as node_eq
use Rattle.form_formula.proofs.Sharing.{same_node}
use Rattle.check_scripts.proofs.Kept.{one_more_same}
use Rattle.check_scripts.proofs.known.extends.Goals as goal

pub loop-id-preserved : goal.loop-id-preserved
loop-id-preserved c =
    let here = c.node.result.now in
    let there = c.node-in-loop-id.result.now in
    let e : (node_eq.ghosts).eq here there ≡ true = search rules in
    let same : here ≡ there = same_node here there e in
    one_more_same c.args.front.now c.args.whole.now c.loop-id.id here c.loop-id.invariant c.node.ensures.node
    (subst (λ (n : Node). slice_get c.args.whole.now c.loop-id.id ≡ Some n) (sym same) c.node-in-loop-id.ensures.node)
