use Rattle.std.specs.List.{All}
use Rattle.std.proofs.Common.{List, subst, ◌≢◌}
use Rattle.solve_equality.specs.declared.visits.Visit.{Visit}
use Rattle.solve_equality.proofs.SearchLemmas.{place_of_visited}
use Rattle.solve_equality.proofs.visits.Visits.place_of.Goals as goal

pub unreachable-requires : goal.unreachable-requires
unreachable-requires c =
    let list = c.self.inside.list.items in
    let place = place_of_visited list c.args.term (rw (← c.self.view_is) at c.requires) in
    let none = subst (λ (vs : List Visit). All (λ (v : Visit). v.term ≢ c.args.term) vs) c.as_slice.ensures.value c.in-None.ensures.none in
    none place.0 (record { term = 0; via = 0; from = 0 }) place.1 place.2
