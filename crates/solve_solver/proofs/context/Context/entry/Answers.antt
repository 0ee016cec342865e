use Rattle.std.proofs.Common.{◌≡◌, ◌+◌, ◌-◌, ◌<◌, false, get_or, length, reverse, Some, ap, sym, subst, ◌∙◌, arith}
use Rattle.std.specs.List.{slice_get}
use Rattle.std.proofs.lemmas.List.{length-reverse, reverse-reverse, get_or_default}
use Rattle.std.proofs.lemmas.Option.{slice_get-get_or}
use Rattle.solve_solver.specs.declared.trail.Entry.{Entry}
use Rattle.solve_solver.specs.Root.{IsEntryAt}
use Rattle.solve_solver.specs.ContextView.{ContextView, Lawful}
use Rattle.solve_solver.specs.Trail.{IsTrail}
use Rattle.solve_solver.proofs.Roots.{entry_at, read_reversed}
use Rattle.solve_solver.proofs.Trails.{reversed_within}
use Rattle.solve_solver.proofs.context.Context.entry.Goals as goal

pub returns-clause-within : goal.returns-clause-within
returns-clause-within g c =
    let items = c.entries.result.now in
    let vars = ap (λ (v : ContextView _ _). v.vars) c.self.view_is in
    let count = ap (λ (v : ContextView _ _). length v.entries) c.self.view_is in
    let d : Entry = record { literal = record { var = 0; plus = false }; decided = false } in
    let place : c.args.place < length items = omega (arith, count, c.requires, ap length c.entries.ensures, length-reverse items) in
    rw (← vars) (reversed_within _ items (subst (IsTrail c.self.inside.trail.vars) c.entries.ensures c.self.invariant.state.is_trail) c.args.place d place)

pub returns-clause-here : goal.returns-clause-here
returns-clause-here g c =
    let T = g.T.Theory in
    let items = c.entries.result.now in
    let es = c.self.inside.trail.entries in
    let count = ap (λ (v : ContextView _ _). length v.entries) c.self.view_is in
    let s : ContextView _ _ = record {
      vars = c.self.inside.trail.vars;
      clauses = c.self.inside.clauses.list;
      atoms = c.self.inside.atoms;
      theory = c.self.inside.theory;
      entries = c.self.inside.trail.entries;
    } in
    let d : Entry = record { literal = record { var = 0; plus = false }; decided = false } in
    let e = get_or items c.args.place d in
    let there : c.args.place < length es = omega (arith, count, c.requires) in
    let place : c.args.place < length items = omega (arith, there, ap length c.entries.ensures, length-reverse items) in
    let is : e ≡ get_or es (length es - (c.args.place + 1)) e =
    read_reversed items c.args.place d place ∙ ap (λ t. get_or t (length t - (c.args.place + 1)) d) (sym c.entries.ensures)
    ∙ get_or_default es (length es - (c.args.place + 1)) d e (omega (arith, there)) in
    subst (λ (v : ContextView _ _). IsEntryAt (Lawful T.models T.meets v) v.entries c.args.place e) c.self.view_is
    (entry_at (Lawful T.models T.meets s) s.vars es c.args.place e c.self.invariant.state.is_trail c.self.invariant.state.follows there is)

pub returns-clause-place : goal.returns-clause-place
returns-clause-place g c =
    let items = c.entries.result.now in
    let count = ap (λ (v : ContextView _ _). length v.entries) c.self.view_is in
    let d : Entry = record { literal = record { var = 0; plus = false }; decided = false } in
    let place : c.args.place < length items = omega (arith, count, c.requires, ap length c.entries.ensures, length-reverse items) in
    let back : reverse c.self.inside.trail.entries ≡ items = ap reverse c.entries.ensures ∙ reverse-reverse items in
    subst (λ (v : ContextView _ _). slice_get (reverse v.entries) c.args.place ≡ Some (get_or items c.args.place d)) c.self.view_is
    (rw back (slice_get-get_or items c.args.place d place))
