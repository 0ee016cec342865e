-- What a gap at a member of a class says of the class.
use Rattle.std.proofs.Common.{◌≡◌, ℕ, ◌<◌, true, List, Option, Some, None, sym, ap, ◌∙◌, subst}
use Rattle.solve_equality.specs.declared.visits.Visit.{Visit}
use Rattle.solve_equality.specs.declared.entry.Failure.{Failure}
use Rattle.solve_equality.specs.Visits.{has_visited}
use Rattle.solve_equality.specs.Edges.{Graph}
use Rattle.solve_equality.specs.Partition.{Parts}
use Rattle.solve_equality.specs.Clash.{IsGapAt, IsGapInto, IsClash, IsClashBy}

clash_by : (parts : Parts) (gaps : Graph) (visits : List Visit) (from into left right : ℕ) (o : Option ℕ) → left < gaps.terms → has_visited visits left ≡ true → IsGapAt parts gaps left right into o → IsClashBy parts gaps visits from into left right o
clash_by parts gaps visits from into left right None l e h = absurd h
clash_by parts gaps visits from into left right (Some k) l e h = (h.0, h.1, h.2, h.3, l, e)

-- a gap at a visited term is a clash
pub IsClash-from_gap : (parts : Parts) (gaps : Graph) (visits : List Visit) (from into term : ℕ) (f : Failure) → term < gaps.terms → has_visited visits term ≡ true → IsGapInto parts gaps term into f → IsClash parts gaps visits from into f
IsClash-from_gap parts gaps visits from into term f l e h =
    clash_by parts gaps visits from into f.left f.right f.forbidden_by (subst (λ t. t < gaps.terms) (sym h.0) l) (ap (has_visited visits) h.0 ∙ e) h.1
