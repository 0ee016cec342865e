use Rattle.std.proofs.Common.{◌≡◌, [], replicate, ap}
use Rattle.link_arena.specs.Lists.{Lists}
use Rattle.link_arena.specs.Rings.{rings, AreSound}
use Rattle.link_arena.proofs.HoldLemmas.{AreSound-empty}
use Rattle.link_arena.proofs.rings.Rings.new.Goals as goal

-- the lists at the end, and that they are sound
made : (c : goal.In_ok-alone) → let a = c.args in
    (rings a.lists a.nodes c.in_ok-alone.field-0 a.nodes ≡ replicate a.lists []) × AreSound a.nodes a.lists c.in_ok-alone.field-0
made c = AreSound-empty c.args.nodes c.args.lists c.in_ok-alone.field-0 c.requires.nodes_fit c.requires.lists_fit c.in_ok-alone.ensures.count c.in_ok-alone.ensures.alone

pub invariant_of-result : goal.invariant_of-result
invariant_of-result c = (made c).1

pub returns : goal.returns
returns c = ap (λ (l : _). let s : Lists = record { nodes = c.args.nodes; lists = l } in s) (made c).0
