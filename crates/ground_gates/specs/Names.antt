-- Variables of the clauses' own, which begin at a base.
use Rattle.std.specs.Prelude.{◌≡◌, ℕ, suc, ◌+◌, ◌<◌, ◌^◌, List, [], ◌∷◌, ◌++◌, Option, None, Some, Contains, length, slice_get}
use Rattle.ground_gates.specs.declared.names.Owner.{Owner}
use Rattle.ground_gates.specs.declared.names.Owner.TheVariants.{Gate, Input}

-- what each of them stands for, and for how many gates and inputs there are places
pub record NamesView : Type 0 where
  pub base : ℕ
  pub owners : List Owner
  pub places : ℕ
  pub input_places : ℕ

-- how many places of a table are taken
abbrev pub taken : List (Option ℕ) → ℕ
taken [] = 0
taken (None ∷ places) = taken places
taken (Some n ∷ places) = suc (taken places)

-- what the tables say is so, and they say all
pub record AreNames (base : ℕ) (owners : List Owner) (gates inputs : List (Option ℕ)) : Type 0 where
  pub room : base + length owners < 2 ^ 32
  pub gate_named : (k n : ℕ) → slice_get gates k ≡ Some (Some n) → slice_get owners n ≡ Some (Gate k)
  pub gate_only : (k n : ℕ) → slice_get owners n ≡ Some (Gate k) → slice_get gates k ≡ Some (Some n)
  pub input_named : (k n : ℕ) → slice_get inputs k ≡ Some (Some n) → slice_get owners n ≡ Some (Input k)
  pub input_only : (k n : ℕ) → slice_get owners n ≡ Some (Input k) → slice_get inputs k ≡ Some (Some n)
  pub one_each : length owners ≡ taken gates + taken inputs

-- the number behind the last of them
abbrev pub end_of : NamesView → ℕ
end_of names = names.base + length names.owners

-- the variable stands for this
abbrev pub IsNamed : NamesView → Owner → ℕ → Type 0
IsNamed names o x = (n : ℕ) × (x ≡ names.base + n) × (slice_get names.owners n ≡ Some o)

-- and it alone
pub record IsOnlyName (names : NamesView) (o : Owner) (x : ℕ) : Type 0 where
  pub place : ℕ
  pub is : x ≡ names.base + place
  pub here : slice_get names.owners place ≡ Some o
  pub only : (n : ℕ) → slice_get names.owners n ≡ Some o → n ≡ place

-- no variable does
abbrev pub HasNoName : NamesView → Owner → Type 0
HasNoName names o = (n : ℕ) → slice_get names.owners n ≡ Some o → ⊥

-- the gates that are named are below this one
abbrev pub IsOwnerBelow : ℕ → Owner → Type 0
IsOwnerBelow j (Gate k) = k < j
IsOwnerBelow j (Input k) = Unit {0}

-- there are more variables, for gates below this one and for inputs
pub record Grows (j : ℕ) (old new : NamesView) : Type 0 where
  pub base : new.base ≡ old.base
  pub places : new.places ≡ old.places
  pub input_places : new.input_places ≡ old.input_places
  pub more : List Owner
  pub whole : new.owners ≡ old.owners ++ more
  pub below : (o : Owner) → Contains more o → IsOwnerBelow j o

-- a gate has a variable, and nothing else is new
pub record IsGateNamed (k : ℕ) (old new : NamesView) (x : ℕ) : Type 0 where
  pub grows : (j : ℕ) → k < j → Grows j old new
  pub inputs : (n i : ℕ) → slice_get new.owners n ≡ Some (Input i) → slice_get old.owners n ≡ Some (Input i)
  pub is : IsNamed new (Gate k) x

-- a variable more, for an input
pub record IsInputAdded (k : ℕ) (old new : NamesView) (x : ℕ) : Type 0 where
  pub base : new.base ≡ old.base
  pub places : new.places ≡ old.places
  pub input_places : new.input_places ≡ old.input_places
  pub whole : new.owners ≡ old.owners ++ Input k ∷ []
  pub is : x ≡ old.base + length old.owners
