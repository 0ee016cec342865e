use Rattle.std.proofs.Common.{false}
use Rattle.ground_terms.specs.Nodes.{list_of}
use Rattle.ground_terms.proofs.Placement.{kind_within}
use Rattle.ground_problem.proofs.CongruenceLaws.{all_same_end, all_same_short, both_begun, both_on, both_done}
use Rattle.ground_problem.proofs.TermLaws.{list_end}
use Rattle.ground_problem.proofs.congruence.push_all_apart.Goals as goal

pub down-init : goal.down-init
down-init c = both_begun c.args.source.arena.now c.args.source.terms.now c.args.ts c.args.us c.args.literals.now.items c.requires.left c.requires.right

pub node-requires : goal.node-requires
node-requires c = kind_within c.args.source.terms.now c.down.left false c.down.invariant.first

pub node-requires-in-down : goal.node-requires-in-down
node-requires-in-down c = kind_within c.args.source.terms.now c.down.right false c.down.invariant.second

pub down-preserved : goal.down-preserved
down-preserved c =
    both_on c.args.source.arena.now c.args.source.terms.now c.args.ts c.args.us c.down.left c.down.right c.in-Cons.t c.in-Cons.rest c.in-Cons-node.u c.in-Cons-node.others c.args.literals.now.items c.down.literals.items
    c.push_apart.new.literals.items c.in-Cons.ensures.placed c.in-Cons.ensures.means c.in-Cons-node.ensures.placed c.in-Cons-node.ensures.means c.in_ok-push_apart.ensures c.down.invariant

pub returns-in_default : goal.returns-in_default
returns-in_default c =
    let terms = c.args.source.terms.now in
    both_done c.args.source.arena.now terms c.args.ts c.args.us c.down.left c.down.right c.args.literals.now.items c.down.literals.items
    (all_same_end c.args.source.arena.now terms (list_of terms c.down.left) (list_of terms c.down.right) (list_end terms c.down.left c.node.result c.down.invariant.first c.node.ensures.node c.node.ensures.means c.in_default.not-Cons)) c.down.invariant

pub returns-in_default-node : goal.returns-in_default-node
returns-in_default-node c =
    let terms = c.args.source.terms.now in
    both_done c.args.source.arena.now terms c.args.ts c.args.us c.down.left c.down.right c.args.literals.now.items c.down.literals.items
    (all_same_short c.args.source.arena.now terms (list_of terms c.down.left) (list_of terms c.down.right)
    (list_end terms c.down.right c.node-in-down.result c.down.invariant.second c.node-in-down.ensures.node c.node-in-down.ensures.means c.in_default-node.not-Cons)) c.down.invariant
