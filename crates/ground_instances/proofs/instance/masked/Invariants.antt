use Rattle.std.proofs.Common.{◌≡◌, ℕ, ◌<◌, true, length, get_or}
use Rattle.ground_terms.specs.Standing.{AreOnes}
use Rattle.ground_instances.specs.Shapes.{is_in}
use Rattle.ground_instances.proofs.instance.masked.Given as goal

abbrev pub invariant-loop-place : goal.invariant-loop-place
invariant-loop-place l =
    (length l.kept.items ≡ l.place) × AreOnes l.terms l.kept.items × ((k : ℕ) → k < l.place → is_in l.mask k ≡ true → get_or l.kept.items k 0 ≡ get_or l.variables k 0)
