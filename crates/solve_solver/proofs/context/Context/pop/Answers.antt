use Rattle.std.proofs.Common.{◌≡◌, ◌-◌, length, take, ap, sym, ◌∙◌, true}
use Rattle.std.specs.Option.{option_to_list, is_some}
use Rattle.solve_solver.specs.Trail.{literal_of}
use Rattle.solve_solver.proofs.Contexts.{IsContext-popped, IsKeptContext-popped, length-some}
use Rattle.solve_solver.proofs.context.Context.pop.Goals as goal

pub invariant_of-self-then-is_some : goal.invariant_of-self-then-is_some
invariant_of-self-then-is_some g c =
    let T = g.T.Theory in
    let before = T.literals c.self.inside.theory in
    let literal = c.theory_literal.ensures in
    let some = sym c.is_some.ensures ∙ c.if-is_some.true in
    let one = ap (λ o. length (option_to_list o)) (sym literal) ∙ length-some c.theory_literal.result some in
    let last : is_some (literal_of c.self.inside.atoms c.in_ok-entry.entry.literal) ≡ true = ap is_some (sym literal) ∙ some in
    let places = c.self.inside.places in
    let rest = c.pop-then-is_some.ensures.rest ∙ ap (λ n. take (n - 1) places.items) places.ok.0 in
    rw c.pop.ensures.vars
    (IsKeptContext-popped T.literals T.capacity T.takes T.models T.meets _ places.items _ _ _ _ c.undo.new.self c.in_ok-entry.entry c.pop.new.self.entries c.self.invariant
    (IsContext-popped T.literals T.capacity T.takes T.models T.meets _ c.undo.new.self c.in_ok-entry.entry c.pop.new.self.entries c.self.invariant.state
    c.in_ok-entry.ensures.entries c.undo.ensures.capacity c.undo.ensures.takes c.undo.ensures.models
    (c.undo.ensures.list ∙ ap (λ n. take (length before - n) before) (sym one)))
    c.in_ok-entry.ensures.entries last rest c.pop-then-is_some.ensures.capacity)
