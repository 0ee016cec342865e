use Rattle.std.proofs.Common.{◌≡◌, take}
use Rattle.std.specs.Prelude.{slice_get}
use Rattle.link_arena.specs.Lists.{list_at}
use Rattle.online_queue.proofs.queue.Queue.first_nodes.Given as goal

abbrev pub invariant-loop-turn : goal.invariant-loop-turn
invariant-loop-turn l = (l.nodes.items ≡ take l._turn (list_at l.self-inside.rings.lists 0)) × (l.next ≡ slice_get (list_at l.self-inside.rings.lists 0) l._turn)
