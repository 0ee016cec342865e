-- Clauses, and when they say that a gate is true.
use Rattle.std.specs.Prelude.{◌≡◌, ℕ, ◌+◌, ◌<◌, ◌≤◌, All, Bool, true, List, [], Option, None, Some, Contains, length, slice_get, slice_index_or}
use Rattle.std.specs.List.{list_all, list_any}
use Rattle.ground_gates.specs.declared.gate.Literal.{Literal}
use Rattle.ground_gates.specs.declared.gate.Gate.{Gate}
use Rattle.ground_gates.specs.declared.gate.Gate.TheVariants.{Yes, No, Input, Both, Either}
use Rattle.ground_gates.specs.Gates.{literal_value, value_of}

-- a clause is met by one true literal
abbrev pub meets_clause : (ℕ → Bool) → List Literal → Bool
meets_clause v clause = list_any (literal_value v) clause

-- and clauses, if each of them is
abbrev pub Meets : List (List Literal) → (ℕ → Bool) → Type 0
Meets clauses v = (clause : List Literal) → Contains clauses clause → meets_clause v clause ≡ true

-- the variables of a clause are below this number
abbrev pub HasVarsBelow : ℕ → List Literal → Type 0
HasVarsBelow n clause = (l : Literal) → Contains clause l → l.var < n

abbrev pub HaveVarsBelow : ℕ → List (List Literal) → Type 0
HaveVarsBelow n clauses = (clause : List Literal) → Contains clauses clause → HasVarsBelow n clause

-- and so is a variable, if there is one
abbrev pub IsVarBelow : ℕ → Option ℕ → Type 0
IsVarBelow n None = Unit {0}
IsVarBelow n (Some x) = x < n

-- and those for which each input stands
abbrev pub AreFactsBelow : ℕ → List (List ℕ) → Type 0
AreFactsBelow n inputs = (k : ℕ) → All (λ x. x < n) (slice_index_or inputs k [])

-- the inputs in gates have numbers below this one
abbrev pub HasInputBelow : ℕ → Gate → Type 0
HasInputBelow n Yes = Unit {0}
HasInputBelow n No = Unit {0}
HasInputBelow n (Input l) = l.var < n
HasInputBelow n (Both a b) = Unit {0}
HasInputBelow n (Either a b) = Unit {0}

abbrev pub HaveInputsBelow : ℕ → List Gate → Type 0
HaveInputsBelow n gates = (k : ℕ) (gate : Gate) → slice_get gates k ≡ Some gate → HasInputBelow n gate

-- the variables in gates are inputs, each of which stands for a list of others: it is true where these all are
abbrev pub inputs_by : List (List ℕ) → (ℕ → Bool) → ℕ → Bool
inputs_by inputs v k = list_all v (slice_index_or inputs k [])

-- The clauses say that a gate is true: where they are met it is, and values that make it true can be completed so that they meet the clauses. Where inputs stand
-- for variables below a base, the clauses have variables of their own from the base up to an end, at most one for each gate and each input.
pub record IsEncoding (base end : ℕ) (inputs : List (List ℕ)) (gates : List Gate) (root : ℕ) (clauses : List (List Literal)) : Type 0 where
  pub rise : base ≤ end
  pub few : end ≤ base + (length gates + length inputs)
  pub sound : (v : ℕ → Bool) → Meets clauses v → value_of (inputs_by inputs v) gates root ≡ true
  pub complete : (v : ℕ → Bool) → value_of (inputs_by inputs v) gates root ≡ true
      → (w : ℕ → Bool) × ((x : ℕ) → x < base → w x ≡ v x) × Meets clauses w
  pub below : (clause : List Literal) (l : Literal) → Contains clauses clause → Contains clause l → l.var < end
