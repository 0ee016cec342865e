-- When literals have a model, and when some of them are why they have none.
-- A theory is given by two tests: which values are its models, and when a model meets a literal.
use Rattle.std.specs.Prelude.{◌≡◌, ◌≢◌, ℕ, ◌<◌, Bool, List, length, IsTrue, All, AllPairs, slice_get}
use Rattle.std.specs.List.{filter_map}

-- one of the theory's models, which meets each of the literals
pub record IsModelOf {M L : Type 0} (models : M → Bool) (meets : M → L → Bool) (literals : List L) (m : M) : Type 0 where
  pub is_model : IsTrue (models m)
  pub meets_each : All (λ l. IsTrue (meets m l)) literals

-- some model meets each of the literals
pub record HasModel {M L : Type 0} (models : M → Bool) (meets : M → L → Bool) (literals : List L) : Type 0 where
  pub model : M
  pub fits : IsModelOf models meets literals model

-- some model meets each of the literals, and one literal more or not, as is said
pub record HasModelSaying {M L : Type 0} (models : M → Bool) (meets : M → L → Bool) (literals : List L) (l : L) (said : Bool) : Type 0 where
  pub model : M
  pub fits : IsModelOf models meets literals model
  pub says : meets model l ≡ said

-- the literals at these places, counted from 0
abbrev pub literals_at : {L : Type 0} → List L → List ℕ → List L
literals_at literals positions = filter_map (slice_get literals) positions

-- places of the list, each once, whose literals alone have no model
pub record IsCore {M L : Type 0} (models : M → Bool) (meets : M → L → Bool) (literals : List L) (positions : List ℕ) : Type 0 where
  pub within : All (λ p. p < length literals) positions
  pub once : AllPairs (λ p q. p ≢ q) positions
  pub has_none : ¬ HasModel models meets (literals_at literals positions)
