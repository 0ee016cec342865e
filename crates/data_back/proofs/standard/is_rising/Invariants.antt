use Rattle.std.proofs.Common.{ℕ, ◌+◌, ◌-◌, ◌<◌, ◌≤◌, length, map}
use Rattle.std.specs.List.{slice_index}
use Rattle.data_meaning.specs.Database.{Record}
use Rattle.data_records.specs.Views.{record_data}
use Rattle.data_back.proofs.standard.is_rising.Given as goal

abbrev pub invariant-loop-place : goal.invariant-loop-place
invariant-loop-place l = record {
  first : 1 ≤ l.place;
  rising : (k : ℕ) → k + 1 < l.place
      → slice_index (map (λ (r : Record). r.id) (map record_data l.records)) k < slice_index (map (λ (r : Record). r.id) (map record_data l.records)) (k + 1);
}

abbrev pub decreases-loop-place : goal.decreases-loop-place
decreases-loop-place l = length l.initial.records - l.place
