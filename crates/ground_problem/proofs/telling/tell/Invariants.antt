use Rattle.std.proofs.Common.{◌≡◌, ◌<◌, ℕ, Some, length}
use Rattle.std.specs.Prelude.{slice_get}
use Rattle.ground_terms.specs.Standing.{terms_at}
use Rattle.ground_problem.specs.declared.telling.Standing.TheVariants.{Named}
use Rattle.ground_problem.specs.Telling.{IsListedElement, IsTelling}
use Rattle.ground_problem.proofs.telling.tell.Given as goal

abbrev pub invariant-loop-id : goal.invariant-loop-id
invariant-loop-id l =
    IsTelling l.source.signature.now l.source.variables.now (terms_at l.source.terms.now l.source.listed.now) l.source.closed l.source.terms.now l.telling × (l.id ≡ length l.telling.standings.items)
    × ((id : ℕ) → id < l.id → IsListedElement l.source.signature.now l.source.terms.now l.source.marks.now id → slice_get l.telling.standings.items id ≡ Some Named)
