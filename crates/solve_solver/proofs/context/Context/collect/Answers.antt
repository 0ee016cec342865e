use Rattle.std.proofs.Common.{◌≡◌, length, reverse, ap, sym, subst, ◌∙◌, arith}
use Rattle.std.proofs.lemmas.List.{length-reverse}
use Rattle.solve_solver.specs.Marks.{ForcesMarked, IsEntailed, collected}
use Rattle.solve_solver.specs.ContextView.{ContextView, Lawful}
use Rattle.solve_solver.specs.Trail.{IsTrail}
use Rattle.solve_solver.proofs.CollectedClauses.{collected_entailed, collected_within, length-collected}
use Rattle.solve_solver.proofs.Trails.{IsTrail-within, reversed_within, length-unset}
use Rattle.solve_solver.proofs.context.Context.collect.Goals as goal

pub collect-requires-clause-within : goal.collect-requires-clause-within
collect-requires-clause-within g c =
    let vars = ap (λ (s : ContextView _ _). s.vars) c.self.view_is in
    let each = reversed_within _ c.entries.result.now (subst (IsTrail c.self.inside.trail.vars) c.entries.ensures c.self.invariant.state.is_trail) in
    rw (c.requires.one_each, ← vars) each

pub collect-requires-clause-room : goal.collect-requires-clause-room
collect-requires-clause-room g c =
    let vars = ap (λ (s : ContextView _ _). s.vars) c.self.view_is in
    let entries = ap (λ (s : ContextView _ _). s.entries) c.self.view_is in
    let short = length-unset _ _ c.args.literal c.self.invariant.state.is_trail (rw vars c.requires.within) (rw entries c.requires.unset) in
    omega (arith, short, ap length c.entries.ensures, length-reverse c.entries.result.now, c.requires.room, vars)

pub returns-clause-items : goal.returns-clause-items
returns-clause-items g c =
    subst (λ (v : ContextView _ _). c.collect.new.clause.items ≡ collected c.args.literal c.args.marks.now v.entries) c.self.view_is
    (c.collect.ensures.items ∙ ap (collected c.args.literal c.args.marks.now) (sym c.entries.ensures))

pub returns-clause-entailed : goal.returns-clause-entailed
returns-clause-entailed g c =
    let T = g.T.Theory in
    let s : ContextView _ _ = record {
      vars = c.self.inside.trail.vars;
      clauses = c.self.inside.clauses.list;
      atoms = c.self.inside.atoms;
      theory = c.self.inside.theory;
      entries = c.self.inside.trail.entries;
    } in
    let forced = subst (λ (v : ContextView _ _). ForcesMarked (Lawful T.models T.meets v) c.args.marks.now v.entries c.args.literal) (sym c.self.view_is) c.requires.forced in
    rw (c.collect.ensures.items, ← c.entries.ensures)
    (subst (λ (v : ContextView _ _). IsEntailed (Lawful T.models T.meets v) (collected c.args.literal c.args.marks.now s.entries)) c.self.view_is
    (collected_entailed (Lawful T.models T.meets s) c.args.marks.now s.entries c.args.literal forced))

pub returns-clause-within : goal.returns-clause-within
returns-clause-within g c =
    let vars = ap (λ (s : ContextView _ _). s.vars) c.self.view_is in
    let es = c.self.inside.trail.entries in
    let each = IsTrail-within c.self.inside.trail.vars es c.self.invariant.state.is_trail in
    let items = c.collect.ensures.items ∙ ap (collected c.args.literal c.args.marks.now) (sym c.entries.ensures) in
    rw (← vars, items) (collected_within c.self.inside.trail.vars c.args.marks.now es c.args.literal (rw vars c.requires.within) each)

pub returns-clause-few : goal.returns-clause-few
returns-clause-few g c =
    let vars = ap (λ (s : ContextView _ _). s.vars) c.self.view_is in
    let entries = ap (λ (s : ContextView _ _). s.entries) c.self.view_is in
    let short = length-unset _ _ c.args.literal c.self.invariant.state.is_trail (rw vars c.requires.within) (rw entries c.requires.unset) in
    omega (arith, short, length-reverse c.entries.result.now, ap length c.entries.ensures, ap length c.collect.ensures.items, length-collected c.args.marks.now (reverse c.entries.result.now) c.args.literal, vars)
