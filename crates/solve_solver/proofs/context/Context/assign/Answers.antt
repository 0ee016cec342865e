use Rattle.std.proofs.Common.{◌<◌, ◌++◌, length, ap, refl, sym, subst, ◌∙◌, arith}
use Rattle.std.specs.Bool.{OnFalse}
use Rattle.std.specs.List.{All}
use Rattle.std.specs.Option.{option_map, option_to_list}
use Rattle.solve_solver.specs.Assignment.{negated}
use Rattle.solve_solver.specs.Marks.{ForcesMarked}
use Rattle.solve_solver.specs.ContextView.{ContextView, Lawful}
use Rattle.solve_solver.specs.Trail.{literal_of, Forces}
use Rattle.solve_solver.proofs.Contexts.{has_room, places_short, IsContext-pushed, IsKeptContext-pushed}
use Rattle.solve_solver.proofs.Places.{conflict_forces, trail_places-within}
use Rattle.solve_solver.proofs.Trails.{length-unset}
use Rattle.solve_solver.proofs.context.Context.assign.Goals as goal

pub try_assert-requires-clause-room : goal.try_assert-requires-clause-room
try_assert-requires-clause-room g c =
    let T = g.T.Theory in
    let entries = ap (λ (s : ContextView _ _). s.entries) c.self.view_is in
    let vars = ap (λ (s : ContextView _ _). s.vars) c.self.view_is in
    has_room T.literals T.capacity T.takes T.models T.meets _ c.args.entry.literal c.self.invariant.state (rw vars c.requires.within) (rw entries c.requires.unset)

pub try_assert-requires-clause-core_room : goal.try_assert-requires-clause-core_room
try_assert-requires-clause-core_room g c =
    let T = g.T.Theory in
    let entries = ap (λ (s : ContextView _ _). s.entries) c.self.view_is in
    let vars = ap (λ (s : ContextView _ _). s.vars) c.self.view_is in
    (places_short T.literals T.capacity T.takes T.models T.meets _ _ _ _ c.args.entry.literal c.self.invariant (rw vars c.requires.within) (rw entries c.requires.unset)).1

pub push_place-requires : goal.push_place-requires
push_place-requires g c =
    let T = g.T.Theory in
    let entries = ap (λ (s : ContextView _ _). s.entries) c.self.view_is in
    let vars = ap (λ (s : ContextView _ _). s.vars) c.self.view_is in
    let short = (places_short T.literals T.capacity T.takes T.models T.meets _ _ _ _ c.args.entry.literal c.self.invariant (rw vars c.requires.within) (rw entries c.requires.unset)).0 in
    omega (arith, short, c.self.inside.places.ok.0)

pub mark_places-requires : goal.mark_places-requires
mark_places-requires g c =
    let vars = ap (λ (s : ContextView _ _). s.vars) c.self.view_is in
    let trail = c.self.inside.trail in
    let each = subst (All (λ v. v < trail.vars)) (sym c.self.invariant.places_in_step) (trail_places-within trail.vars c.self.inside.atoms trail.entries c.self.invariant.state.is_trail) in
    rw (c.as_slice.ensures.value, c.requires.one_each, ← vars) each

pub returns-then-not-try_assert-clause-why : goal.returns-then-not-try_assert-clause-why
returns-then-not-try_assert-clause-why g c =
    let T = g.T.Theory in
    let vars = ap (λ (s : ContextView _ _). s.vars) c.self.view_is in
    let literal = c.theory_literal-literal.ensures in
    subst (λ (s : ContextView _ _). ForcesMarked (Lawful T.models T.meets s) c.mark_places.new.marks s.entries (negated c.args.entry.literal)) c.self.view_is
    (conflict_forces T.literals T.capacity T.takes T.models T.meets _ c.self.inside.places.items _ _ c.self.invariant c.args.entry.literal c.mark_places.new.marks c.try_assert.new.core.items
    (rw vars c.requires.within) (rw (← literal) c.if-not-try_assert.ensures.why)
    (rw (← c.items.ensures, ← c.as_slice.ensures.value) c.mark_places.ensures.marked))

pub invariant_of-self-2 : goal.invariant_of-self-2
invariant_of-self-2 g c =
    let T = g.T.Theory in
    let entries = ap (λ (s : ContextView _ _). s.entries) c.self.view_is in
    let vars = ap (λ (s : ContextView _ _). s.vars) c.self.view_is in
    let literal = c.theory_literal-literal.ensures in
    let forced = subst (λ (s : ContextView _ _). OnFalse c.args.entry.decided (Forces (Lawful T.models T.meets s) s.entries c.args.entry.literal)) (sym c.self.view_is) c.requires.follows in
    let places = c.push_place.ensures.items ∙ ap (λ o. c.self.inside.places.items ++ option_to_list (option_map (λ _. c.args.entry.literal.var) o)) literal in
    rw (c.push.ensures.vars, c.push.ensures.entries, c.try_assert.ensures.core_capacity)
    (IsKeptContext-pushed T.literals T.capacity T.takes T.models T.meets _ c.self.inside.places.items _ _ _ _ c.try_assert.new.theory c.args.entry c.self.invariant
    (IsContext-pushed T.literals T.capacity T.takes T.models T.meets _ c.try_assert.new.theory c.args.entry c.self.invariant.state
    c.try_assert.ensures.capacity c.try_assert.ensures.takes c.try_assert.ensures.models
    (c.if-not-try_assert.ensures.list ∙ ap (λ o. T.literals c.self.inside.theory ++ option_to_list o) literal)
    (rw (← literal) (c.if-not-try_assert.ensures.verdict.0 refl))
    (rw vars c.requires.within) (rw entries c.requires.unset) forced)
    places c.push_place.ensures.capacity)

pub returns-then-not-try_assert-clause-room : goal.returns-then-not-try_assert-clause-room
returns-then-not-try_assert-clause-room g c =
    let vars = ap (λ (s : ContextView _ _). s.vars) c.self.view_is in
    let entries = ap (λ (s : ContextView _ _). s.entries) c.self.view_is in
    subst (λ (s : ContextView _ _). length s.entries < s.vars) c.self.view_is
    (length-unset _ _ c.args.entry.literal c.self.invariant.state.is_trail (rw vars c.requires.within) (rw entries c.requires.unset))

pub returns-clause-room : goal.returns-clause-room
returns-clause-room g c =
    let vars = ap (λ (s : ContextView _ _). s.vars) c.self.view_is in
    let entries = ap (λ (s : ContextView _ _). s.entries) c.self.view_is in
    subst (λ (s : ContextView _ _). length s.entries < s.vars) c.self.view_is
    (length-unset _ _ c.args.entry.literal c.self.invariant.state.is_trail (rw vars c.requires.within) (rw entries c.requires.unset))
