use Rattle.std.proofs.Common.{◌≡◌, length}
use Rattle.ground_instances.specs.Shapes.{AreShapes}
use Rattle.ground_instances.proofs.shapes.shapes_of.Given as goal

abbrev pub invariant-loop-at : goal.invariant-loop-at
invariant-loop-at l = (length l.shapes.items ≡ l.at) × AreShapes l.arena l.shapes.items
