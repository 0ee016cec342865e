use Rattle.std.proofs.Common.{◌≡◌, ℕ, List, ◌<◌}
use Rattle.std.specs.Prelude.{slice_get, Some}
use Rattle.certify_atoms.proofs.sides.place_of.Given as goal

abbrev pub invariant-loop-place : goal.invariant-loop-place
invariant-loop-place l = (k : ℕ) (t : List ℕ) → k < l.place → slice_get l.texts k ≡ Some t → t ≡ l.text → ⊥
