use Rattle.std.proofs.Common.{◌≡◌, ◌<◌, ℕ, true, Some, length, take, Contains}
use Rattle.std.specs.Prelude.{slice_get}
use Rattle.ground_problem.proofs.spoken.marks_of.Given as goal

abbrev pub invariant-loop-id : goal.invariant-loop-id
invariant-loop-id l =
    ((id : ℕ) → slice_get l.marks.items id ≡ Some true → Contains (take l.id-index l.listed) id) × (length l.marks.items ≡ l.fn.count)
    × ((id : ℕ) → Contains (take l.id-index l.listed) id → id < l.fn.count → slice_get l.marks.items id ≡ Some true)
