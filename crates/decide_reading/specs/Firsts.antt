-- The first places of keys.
use Rattle.std.specs.Prelude.{◌≡◌, ℕ, ◌<◌, List, Option, Some, position}
use Rattle.std.specs.Map.{lookup}
use Rattle.ground_problem.specs.declared.words.PairNode.{PairNode}
use Rattle.decide_reading.specs.Columns.{is_same_pair}

-- each key has the place that it had
abbrev pub KeepsPlaces : {K : Type 0} → (K → Option ℕ) → (K → Option ℕ) → Type 0
KeepsPlaces {K} old new = (k : K) (p : ℕ) → old k ≡ Some p → new k ≡ Some p

-- the places are below a bound
abbrev pub ArePlacesBelow : {K : Type 0} → ℕ → (K → Option ℕ) → Type 0
ArePlacesBelow {K} n places = (k : K) (p : ℕ) → places k ≡ Some p → p < n

-- entries give each pair its first place
abbrev pub AreFirstPlaces : List (PairNode × ℕ) → List PairNode → Type 0
AreFirstPlaces entries pairs = (q : PairNode) → lookup (is_same_pair q) entries ≡ position (is_same_pair q) pairs
