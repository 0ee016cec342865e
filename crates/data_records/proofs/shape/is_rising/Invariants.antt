use Rattle.std.proofs.Common.{ℕ, ◌+◌, ◌-◌, ◌<◌, ◌≤◌, length}
use Rattle.std.specs.List.{slice_index}
use Rattle.data_records.proofs.shape.is_rising.Given as goal

abbrev pub invariant-loop-place : goal.invariant-loop-place
invariant-loop-place l = record {
  first : 1 ≤ l.place;
  rising : (k : ℕ) → k + 1 < l.place → slice_index l.ids k < slice_index l.ids (k + 1);
}

abbrev pub decreases-loop-place : goal.decreases-loop-place
decreases-loop-place l = length l.initial.ids - l.place
