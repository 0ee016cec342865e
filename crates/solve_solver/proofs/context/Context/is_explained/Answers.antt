use Rattle.std.proofs.Common.{◌↔◌, ◌≤◌, false, length, set, Some, IsTrue, sym, subst, arith}
use Rattle.std.specs.Bool.{OnTrue}
use Rattle.std.specs.List.{slice_get}
use Rattle.std.specs.Option.{IsSomeAnd}
use Rattle.std.proofs.lemmas.Bool.{OnTrue_from, false≢true}
use Rattle.std.proofs.lemmas.Option.{slice_get_past}
use Rattle.solve_solver.specs.Marks.{ForcesMarked, IsMarkedBut}
use Rattle.solve_solver.specs.ContextView.{ContextView, Lawful}
use Rattle.solve_solver.proofs.MarkedTrails.{IsBackedMarked-clause}
use Rattle.solve_solver.proofs.Shown.{given_entailed}
use Rattle.solve_solver.proofs.context.Context.is_explained.Goals as goal

pub returns-then-index-len-clause-forced : goal.returns-then-index-len-clause-forced
returns-then-index-len-clause-forced g c =
    let T = g.T.Theory in
    let clause = c.clause.result.now in
    let l = c.args.literal in
    let marks = set c.args.marks.now l.var false in
    let s : ContextView _ _ = record {
      vars = c.self.inside.trail.vars;
      clauses = c.self.inside.clauses.list;
      atoms = c.self.inside.atoms;
      theory = c.self.inside.theory;
      entries = c.self.inside.trail.entries;
    } in
    subst (λ (v : ContextView _ _). OnTrue c.is_marked_but.result (ForcesMarked (Lawful T.models T.meets v) marks v.entries l)) c.self.view_is
    (OnTrue_from c.is_marked_but.result _
    (λ shown. IsBackedMarked-clause (Lawful T.models T.meets s) marks s.entries (Some l) clause
    (given_entailed T.models T.meets s c.args.index clause c.clause.ensures) (c.is_marked_but.ensures.0 shown)))

pub returns-then-index-len-clause-by : goal.returns-then-index-len-clause-by
returns-then-index-len-clause-by g c =
    let l = c.args.literal in
    let marks = set c.args.marks.now l.var false in
    subst (λ (v : ContextView _ _). IsTrue c.is_marked_but.result ↔ IsSomeAnd (slice_get v.clauses c.args.index) (IsMarkedBut marks v.entries (Some l))) c.self.view_is
    (subst (λ o. IsTrue c.is_marked_but.result ↔ IsSomeAnd o (IsMarkedBut marks c.self.inside.trail.entries (Some l))) (sym c.clause.ensures) c.is_marked_but.ensures)

pub returns-else-index-len-clause-by : goal.returns-else-index-len-clause-by
returns-else-index-len-clause-by g c =
    let l = c.args.literal in
    let marks = set c.args.marks.now l.var false in
    let past : length c.self.inside.clauses.list ≤ c.args.index = omega arith in
    subst (λ (v : ContextView _ _). IsTrue false ↔ IsSomeAnd (slice_get v.clauses c.args.index) (IsMarkedBut marks v.entries (Some l))) c.self.view_is
    (subst (λ o. IsTrue false ↔ IsSomeAnd o (IsMarkedBut marks c.self.inside.trail.entries (Some l))) (sym (slice_get_past c.self.inside.clauses.list c.args.index past))
    (λ f. absurd (false≢true f), λ h. absurd h))
