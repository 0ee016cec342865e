use Rattle.std.proofs.Common.{◌≤◌, length}
use Rattle.form_formula.specs.Marks.{AreKept, ArePassedOn}
use Rattle.form_formula.proofs.marks.pass_on.Given as goal

abbrev pub invariant-loop-left : goal.invariant-loop-left
invariant-loop-left l = (l.left ≤ length l.marks) × AreKept l.initial.marks l.marks × ArePassedOn l.arena l.marks l.left

abbrev pub decreases-loop-left : goal.decreases-loop-left
decreases-loop-left l = l.left
