-- What forbids that two classes are joined.
use Rattle.std.specs.Prelude.{◌≡◌, ℕ, ◌<◌, true, List, Option, Some, None, length}
use Rattle.solve_equality.specs.declared.visits.Visit.{Visit}
use Rattle.solve_equality.specs.declared.entry.Failure.{Failure}
use Rattle.solve_equality.specs.Visits.{has_visited}
use Rattle.solve_equality.specs.Edges.{Graph, pair_at, Joins}
use Rattle.solve_equality.specs.Partition.{Parts, class_at, anchor_at}

-- the number is that of an edge between a term and one of the class
abbrev pub IsGapAt : Parts → Graph → ℕ → ℕ → ℕ → Option ℕ → Type 0
IsGapAt parts gaps left right into None = ⊥
IsGapAt parts gaps left right into (Some k) =
    (k < length gaps.pairs) × Joins (pair_at gaps.pairs k) right left × (right < gaps.terms) × (class_at parts right ≡ into)

-- the terms are this one and one of the class, between which there is an edge
abbrev pub IsGapInto : Parts → Graph → ℕ → ℕ → Failure → Type 0
IsGapInto parts gaps term into f = (f.left ≡ term) × IsGapAt parts gaps f.left f.right into f.forbidden_by

-- the terms are the anchors of the two classes, or a visited term and one of the class `into` between which there is an edge
abbrev pub IsClashBy : Parts → Graph → List Visit → ℕ → ℕ → ℕ → ℕ → Option ℕ → Type 0
IsClashBy parts gaps visits from into left right None = (anchor_at parts from ≡ Some left) × (anchor_at parts into ≡ Some right)
IsClashBy parts gaps visits from into left right (Some k) =
    (k < length gaps.pairs) × Joins (pair_at gaps.pairs k) right left × (right < gaps.terms) × (class_at parts right ≡ into)
    × (left < gaps.terms) × (has_visited visits left ≡ true)

abbrev pub IsClash : Parts → Graph → List Visit → ℕ → ℕ → Failure → Type 0
IsClash parts gaps visits from into f = IsClashBy parts gaps visits from into f.left f.right f.forbidden_by
