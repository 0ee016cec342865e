-- Terms and pairs that have what the first with their key has.
use Rattle.std.specs.Prelude.{◌≡◌, ◌<◌, ℕ, All, Bool, false, List, Option, Some, option_and_then, Contains, slice_get, unwrap_or}
use Rattle.form_formula.specs.declared.structure.SVal.{SVal}
use Rattle.form_terms.specs.GroundTerms.{GroundTerm}
use Rattle.ground_terms.specs.declared.node.TermNode.{TermNode}
use Rattle.ground_terms.specs.Nodes.{term_of}
use Rattle.ground_problem.specs.declared.words.PairNode.{PairNode}
use Rattle.ground_problem.specs.Words.{pair_at}
use Rattle.decide_models.specs.declared.found.Found.{Found}
use Rattle.decide_reading.specs.Keys.{HaveValues, key_of, pair_key_of, value_at}
use Rattle.decide_reading.specs.declared.broken_terms.Rivals.{Rivals}
use Rattle.decide_reading.specs.declared.keys.Key.{Key}
use Rattle.decide_reading.specs.declared.keys.PairKey.{PairKey}

-- what was found of the first of some terms with a key
abbrev pub first_value : Found → List ℕ → (Key → Option ℕ) → Key → Option SVal
first_value found ids places k = option_and_then (λ place. option_and_then (value_at found) (slice_get ids place)) (places k)

-- the term has what the first has, whatever values terms have
abbrev pub IsSettled : List TermNode → Found → List ℕ → (Key → Option ℕ) → ℕ → Type 0
IsSettled nodes found ids places id =
    (values : GroundTerm → Option SVal) (k : Key) → HaveValues nodes found values → key_of values (term_of nodes id) ≡ Some k
    → values (term_of nodes id) ≡ first_value found ids places k

-- the key of the term has a first, and the term has what that has
abbrev pub HasSettled : List TermNode → Found → List ℕ → (Key → Option ℕ) → ℕ → Type 0
HasSettled nodes found ids places id =
    (values : GroundTerm → Option SVal) (k : Key) → HaveValues nodes found values → key_of values (term_of nodes id) ≡ Some k
    → (first : ℕ) × (places k ≡ Some first) × (values (term_of nodes id) ≡ option_and_then (value_at found) (slice_get ids first))

-- what terms have is a function of their keys
abbrev pub AreFunctional : (GroundTerm → Option SVal) → List GroundTerm → Type 0
AreFunctional values ts = (by : Key → Option SVal) × ((t : GroundTerm) (k : Key) → Contains ts t → key_of values t ≡ Some k → values t ≡ by k)

-- whether the set relation of a pair was found to hold, by its place
abbrev pub related_at : Found → ℕ → Bool
related_at found k = unwrap_or (slice_get found.related k) false

-- and whether that of the first pair with a key was
abbrev pub first_related : Found → (PairKey → Option ℕ) → PairKey → Bool
first_related found places k = unwrap_or (option_and_then (slice_get found.related) (places k)) false

abbrev pub IsPairSettled : List TermNode → Found → (PairKey → Option ℕ) → ℕ → PairNode → Type 0
IsPairSettled nodes found places place pair =
    (values : GroundTerm → Option SVal) (k : PairKey) → HaveValues nodes found values → pair_key_of values (pair_at nodes pair) ≡ Some k
    → related_at found place ≡ first_related found places k

-- the key of the pair has a first, and both are related or neither
abbrev pub HasPairSettled : List TermNode → Found → (PairKey → Option ℕ) → ℕ → PairNode → Type 0
HasPairSettled nodes found places place pair =
    (values : GroundTerm → Option SVal) (k : PairKey) → HaveValues nodes found values → pair_key_of values (pair_at nodes pair) ≡ Some k
    → (first : ℕ) × (places k ≡ Some first) × (related_at found place ≡ related_at found first)

-- the places of rivals are below a bound
abbrev pub IsRivals : ℕ → Rivals → Type 0
IsRivals n two = (two.one < n) × (two.first < n)

abbrev pub AreRivals : ℕ → List Rivals → Type 0
AreRivals n rivals = All (IsRivals n) rivals
