-- The terms that an entry speaks of.
use Rattle.std.specs.Prelude.{◌≢◌, ℕ, ◌<◌, Option, Some, None}
use Rattle.solve_equality.specs.declared.literal.EqualityLit.{EqualityLit}
use Rattle.solve_equality.specs.declared.literal.EqualityLit.TheVariants.{Same, Differ}
use Rattle.solve_equality.specs.declared.entry.Join.{Join}
use Rattle.solve_equality.specs.declared.entry.Entry.{Entry}
use Rattle.solve_equality.specs.declared.entry.Entry.TheVariants.{Joined, Known, Apart, Failed}

-- the literal of an entry
abbrev pub literal_of : Entry → EqualityLit
literal_of (Joined j) = Same j.left j.right
literal_of (Known left right) = Same left right
literal_of (Apart left right) = Differ left right
literal_of (Failed literal) = literal

-- the terms that an equality puts together, if the literal is one
abbrev pub same_ends : EqualityLit → Option (ℕ × ℕ)
same_ends (Same a b) = Some (a, b)
same_ends (Differ a b) = None

-- the terms that an equality put together, if it was needed for that
abbrev pub link_of : Entry → Option (ℕ × ℕ)
link_of (Joined j) = Some (j.left, j.right)
link_of (Known left right) = None
link_of (Apart left right) = None
link_of (Failed literal) = same_ends literal

-- the terms that a difference keeps apart
abbrev pub gap_of : Entry → Option (ℕ × ℕ)
gap_of (Joined j) = None
gap_of (Known left right) = None
gap_of (Apart left right) = Some (left, right)
gap_of (Failed literal) = None

-- two different terms
abbrev pub AreEnds : ℕ → ℕ × ℕ → Type 0
AreEnds terms ends = (ends.0 < terms) × (ends.1 < terms) × (ends.0 ≢ ends.1)

-- the join that an equality brought about
abbrev pub join_of : Entry → Option Join
join_of (Joined j) = Some j
join_of (Known left right) = None
join_of (Apart left right) = None
join_of (Failed literal) = None
