-- What adding a gate does.
use Rattle.std.specs.Prelude.{◌≡◌, ℕ, ◌<◌, Bool, List, ◌++◌, Some, Contains, length, slice_get}
use Rattle.ground_gates.specs.declared.gate.Gate.{Gate}
use Rattle.ground_gates.specs.Gates.{gate_value, values_of, value_of}

-- the number is the gate's, all gates are there as before, with no other one, and the number is true where what the gate names is
pub record IsAdded (old : List Gate) (gate : Gate) (new : List Gate) (id : ℕ) : Type 0 where
  pub there : slice_get new id ≡ Some gate
  pub more : List Gate
  pub whole : new ≡ old ++ more
  pub only : (other : Gate) → Contains more other → other ≡ gate
  pub means : (v : ℕ → Bool) → value_of v new id ≡ gate_value v (values_of v old) gate
  pub kept : (v : ℕ → Bool) (k : ℕ) → k < length old → value_of v new k ≡ value_of v old k
