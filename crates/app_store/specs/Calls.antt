-- The calls of a run, of the shelf and of the store.
use Rattle.std.specs.Prelude.{ℕ, List, [], ◌∷◌}
use Rattle.store_keeper.specs.declared.keeper.KeepCall.{KeepCall}

pub data Call : Type 0 where
  Fetch : (name : List ℕ) → Call
  Keep : (call : KeepCall) → Call

-- the names that are fetched, in their order
abbrev pub fetched_by : Call → List (List ℕ)
fetched_by (Fetch name) = name ∷ []
fetched_by (Keep call) = []

-- the calls of the store, in their order
abbrev pub kept_by : Call → List KeepCall
kept_by (Fetch name) = []
kept_by (Keep call) = call ∷ []
