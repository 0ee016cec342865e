use Rattle.std.proofs.Common.{◌≡◌, length}
use Rattle.ground_terms.specs.Matrices.{AreMatrices}
use Rattle.ground_terms.proofs.matrix.matrices_below.Given as goal

abbrev pub invariant-loop-at : goal.invariant-loop-at
invariant-loop-at l = (length l.marks.items ≡ l.at) × AreMatrices l.arena l.marks.items
