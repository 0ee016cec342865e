-- What the assertion of literals did to the classes.
use Rattle.std.specs.Prelude.{◌≡◌, ◌≢◌, ℕ, ◌<◌, ◌+◌, ◌⊎◌, ◌≤◌, ◌^◌, true, List, [], ◌∷◌, length, map, Option, Some, None, slice_index_or}
use Rattle.solve_equality.specs.declared.literal.EqualityLit.{EqualityLit}
use Rattle.solve_equality.specs.declared.literal.EqualityLit.TheVariants.{Same, Differ}
use Rattle.solve_equality.specs.declared.entry.Join.{Join}
use Rattle.solve_equality.specs.declared.entry.Failure.{Failure}
use Rattle.solve_equality.specs.declared.entry.Entry.{Entry}
use Rattle.solve_equality.specs.declared.entry.Entry.TheVariants.{Joined, Known, Apart, Failed}
use Rattle.solve_equality.specs.Partition.{Parts, class_at, anchor_at, is_fixed, joined, start}
use Rattle.solve_equality.specs.Visits.{Visited}
use Rattle.solve_equality.specs.Edges.{Graph}
use Rattle.solve_equality.specs.Search.{AreLinked}
use Rattle.solve_equality.specs.EntryEnds.{literal_of, link_of, gap_of}

-- the classes after an assertion
abbrev pub step : Parts → Entry → Parts
step parts (Joined j) = joined parts j.from j.into
step parts (Known left right) = parts
step parts (Apart left right) = parts
step parts (Failed literal) = parts

-- the classes after one assertion and another
abbrev pub after : Parts → List Entry → Parts
after parts [] = parts
after parts (e ∷ es) = after (step parts e) es

-- both terms of the literal are below the number of terms
abbrev pub AreWithin : ℕ → EqualityLit → Type 0
AreWithin terms (Same a b) = (a < terms) × (b < terms)
AreWithin terms (Differ a b) = (a < terms) × (b < terms)

-- a join of the classes of two terms, not both of which have an anchor
pub record IsJoin (terms : ℕ) (parts : Parts) (j : Join) : Type 0 where
  pub left_in : j.left < terms
  pub right_in : j.right < terms
  pub near_in : j.near < terms
  pub near_from : class_at parts j.near ≡ j.from
  pub ends : ((class_at parts j.left ≡ j.from) × (class_at parts j.right ≡ j.into)) ⊎ ((class_at parts j.left ≡ j.into) × (class_at parts j.right ≡ j.from))
  pub apart : j.from ≢ j.into
  pub kept : j.anchor ≡ anchor_at parts j.into
  pub free : (anchor_at parts j.into ≡ None) ⊎ (anchor_at parts j.from ≡ None)

-- the entry is one that an assertion makes where the classes are these
abbrev pub IsLawful : ℕ → Parts → Entry → Type 0
IsLawful terms parts (Joined j) = IsJoin terms parts j
IsLawful terms parts (Known left right) = (left < terms) × (right < terms) × (class_at parts left ≡ class_at parts right)
IsLawful terms parts (Apart left right) = (left < terms) × (right < terms)
IsLawful terms parts (Failed literal) = AreWithin terms literal

-- so is each entry in its turn
abbrev pub AreLawful : ℕ → Parts → List Entry → Type 0
AreLawful terms parts [] = Unit {0}
AreLawful terms parts (e ∷ es) = IsLawful terms parts e × AreLawful terms (step parts e) es

-- the entry is not a failed one
abbrev pub IsSettled : Entry → Type 0
IsSettled (Joined j) = Unit {0}
IsSettled (Known left right) = Unit {0}
IsSettled (Apart left right) = Unit {0}
IsSettled (Failed literal) = ⊥

-- the terms of a difference are in two classes
abbrev pub IsSeparated : Parts → Entry → Type 0
IsSeparated parts (Joined j) = Unit {0}
IsSeparated parts (Known left right) = Unit {0}
IsSeparated parts (Apart left right) = class_at parts left ≢ class_at parts right
IsSeparated parts (Failed literal) = Unit {0}

abbrev pub entry_at : List Entry → ℕ → Entry
entry_at entries k = slice_index_or entries k (Known 0 0)

-- the literal says that the two terms are different
abbrev pub SaysDifferent : EqualityLit → ℕ → ℕ → Type 0
SaysDifferent (Same a b) left right = ⊥
SaysDifferent (Differ a b) left right = ((a ≡ left) × (b ≡ right)) ⊎ ((a ≡ right) × (b ≡ left))

-- what forbids that the two terms are together: a literal, or that both are fixed
abbrev pub IsForbidden : List ℕ → List Entry → ℕ → ℕ → Option ℕ → Type 0
IsForbidden fixed entries left right None = (is_fixed fixed left ≡ true) × (is_fixed fixed right ≡ true) × (left ≢ right)
IsForbidden fixed entries left right (Some k) = (k < length entries) × SaysDifferent (literal_of (entry_at entries k)) left right

-- the equalities put two terms together that must not be, and all entries but the last are settled
pub record IsFailure (terms : ℕ) (fixed : List ℕ) (entries : List Entry) (f : Failure) : Type 0 where
  pub left_in : f.left < terms
  pub right_in : f.right < terms
  pub linked : AreLinked (map link_of entries) f.left f.right
  pub forbidden : IsForbidden fixed entries f.left f.right f.forbidden_by
  pub settled : (k : ℕ) → k + 1 < length entries → IsSettled (entry_at entries k)

-- where no literal has failed, all entries are settled
abbrev pub IsStanding : ℕ → List ℕ → List Entry → Option Failure → Type 0
IsStanding terms fixed entries None = (k : ℕ) → k < length entries → IsSettled (entry_at entries k)
IsStanding terms fixed entries (Some f) = IsFailure terms fixed entries f

-- what is kept beside the entries is what they make of it
pub record IsSoundEquality (entries : List Entry) (room limit terms : ℕ) (fixed : List ℕ) (links gaps : Graph) (parts : Parts) (visits : Visited) (failure : Option Failure) : Type 0 where
  pub small : limit < 2 ^ 32
  pub has_room : limit ≤ room
  pub fits : length entries ≤ limit
  pub fixed_in : (f : ℕ) → is_fixed fixed f ≡ true → f < terms
  pub links_are : links ≡ record { pairs = map link_of entries; terms = terms; capacity = limit }
  pub gaps_are : gaps ≡ record { pairs = map gap_of entries; terms = terms; capacity = limit }
  pub visits_are : visits.terms ≡ terms
  pub parts_are : parts ≡ after (start terms fixed) entries
  pub lawful : AreLawful terms (start terms fixed) entries
  pub separated : (k : ℕ) → k < length entries → IsSeparated parts (entry_at entries k)
  pub standing : IsStanding terms fixed entries failure
