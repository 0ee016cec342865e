use Rattle.std.proofs.Common.{◌-◌, arith}
use Rattle.ground_instances.proofs.ListLaws.{made_more, next_placed}
use Rattle.ground_instances.proofs.lists.list_from.Goals as goal

pub add-requires-in-left : goal.add-requires-in-left
add-requires-in-left c = next_placed c.args.ids.now (c.left.left - 1) c.args.terms.now c.left.terms _ c.left.list c.requires (omega arith) c.left.invariant.1

pub left-preserved : goal.left-preserved
left-preserved c = (
  omega arith,
  made_more c.args.ids.now c.left.left (c.left.left - 1) c.args.terms.now c.left.terms _ c.left.list c.in_ok-list-2.list c.requires (omega arith) (omega arith) c.left.invariant.1 c.in_ok-list-2.ensures.made,
)
