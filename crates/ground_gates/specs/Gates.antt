-- Gates, and their truth.
use Rattle.std.specs.Prelude.{◌≡◌, ℕ, ◌<◌, Bool, true, false, not, ◌&&◌, ◌||◌, List, [], ◌∷◌, ◌++◌, Some, fold, cond, slice_get, slice_index_or}
use Rattle.ground_gates.specs.declared.gate.Literal.{Literal}
use Rattle.ground_gates.specs.declared.gate.Gate.{Gate}
use Rattle.ground_gates.specs.declared.gate.Gate.TheVariants.{Yes, No, Input, Both, Either}

-- the value of a literal
abbrev pub literal_value : (ℕ → Bool) → Literal → Bool
literal_value v l = cond l.plus (v l.var) (not (v l.var))

-- the truth of a gate, where the numbers in it have these values
abbrev pub gate_value : (ℕ → Bool) → List Bool → Gate → Bool
gate_value v values Yes = true
gate_value v values No = false
gate_value v values (Input l) = literal_value v l
gate_value v values (Both a b) = slice_index_or values a false && slice_index_or values b false
gate_value v values (Either a b) = slice_index_or values a false || slice_index_or values b false

-- the truth of all gates, each by that of those before it
unfoldable pub values_of : (ℕ → Bool) → List Gate → List Bool
values_of v gates = fold (λ values gate. values ++ gate_value v values gate ∷ []) [] gates

abbrev pub value_of : (ℕ → Bool) → List Gate → ℕ → Bool
value_of v gates k = slice_index_or (values_of v gates) k false

-- the numbers in the gate are below this one
abbrev pub IsPlaced : ℕ → Gate → Type 0
IsPlaced k Yes = Unit {0}
IsPlaced k No = Unit {0}
IsPlaced k (Input l) = Unit {0}
IsPlaced k (Both a b) = (a < k) × (b < k)
IsPlaced k (Either a b) = (a < k) × (b < k)

-- each gate has its parts before it
abbrev pub ArePlaced : List Gate → Type 0
ArePlaced gates = (k : ℕ) (gate : Gate) → slice_get gates k ≡ Some gate → IsPlaced k gate
