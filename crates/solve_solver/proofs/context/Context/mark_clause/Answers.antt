use Rattle.std.proofs.Common.{◌≡◌, ◌≤◌, false, length, MatchOption, refl, sym, subst, arith}
use Rattle.std.specs.Bool.{OnTrue}
use Rattle.std.specs.List.{slice_get}
use Rattle.std.proofs.lemmas.Option.{slice_get_past}
use Rattle.solve_solver.specs.Marks.{IsBackedMarked, IsMarkedBy}
use Rattle.solve_solver.specs.ContextView.{ContextView, Lawful}
use Rattle.solve_solver.proofs.Entailment.{OnTrue-weaker}
use Rattle.solve_solver.proofs.MarkedTrails.{IsBackedMarked-clause}
use Rattle.solve_solver.proofs.Shown.{given_entailed}
use Rattle.solve_solver.proofs.context.Context.mark_clause.Goals as goal

pub returns-then-index-len-clause-shown : goal.returns-then-index-len-clause-shown
returns-then-index-len-clause-shown g c =
    let T = g.T.Theory in
    let clause = c.clause.result.now in
    let s : ContextView _ _ = record {
      vars = c.self.inside.trail.vars;
      clauses = c.self.inside.clauses.list;
      atoms = c.self.inside.atoms;
      theory = c.self.inside.theory;
      entries = c.self.inside.trail.entries;
    } in
    subst (λ (v : ContextView _ _). OnTrue c.mark_clause.result (IsBackedMarked (Lawful T.models T.meets v) c.mark_clause.new.marks v.entries c.args.literal)) c.self.view_is
    (OnTrue-weaker c.mark_clause.result
    (λ marked. IsBackedMarked-clause (Lawful T.models T.meets s) c.mark_clause.new.marks s.entries c.args.literal clause
    (given_entailed T.models T.meets s c.args.index clause c.clause.ensures) marked)
    c.mark_clause.ensures.marked)

pub returns-then-index-len-clause-by : goal.returns-then-index-len-clause-by
returns-then-index-len-clause-by g c =
    subst (λ (v : ContextView _ _). MatchOption (slice_get v.clauses c.args.index) ((c.mark_clause.result ≡ false) × (c.mark_clause.new.marks ≡ c.args.marks.now))
    (λ clause. IsMarkedBy v.entries c.args.literal clause c.args.marks.now c.mark_clause.new.marks c.mark_clause.result)) c.self.view_is
    (subst (λ o. MatchOption o ((c.mark_clause.result ≡ false) × (c.mark_clause.new.marks ≡ c.args.marks.now))
    (λ clause. IsMarkedBy c.self.inside.trail.entries c.args.literal clause c.args.marks.now c.mark_clause.new.marks c.mark_clause.result)) (sym c.clause.ensures) c.mark_clause.ensures)

pub returns-else-index-len-clause-by : goal.returns-else-index-len-clause-by
returns-else-index-len-clause-by g c =
    let past : length c.self.inside.clauses.list ≤ c.args.index = omega arith in
    subst (λ (v : ContextView _ _). MatchOption (slice_get v.clauses c.args.index) ((false ≡ false) × (c.args.marks.now ≡ c.args.marks.now))
    (λ clause. IsMarkedBy v.entries c.args.literal clause c.args.marks.now c.args.marks.now false)) c.self.view_is
    (subst (λ o. MatchOption o ((false ≡ false) × (c.args.marks.now ≡ c.args.marks.now))
    (λ clause. IsMarkedBy c.self.inside.trail.entries c.args.literal clause c.args.marks.now c.args.marks.now false)) (sym (slice_get_past c.self.inside.clauses.list c.args.index past)) (refl, refl))
