use Rattle.std.proofs.Common.{◌≡◌, ◌<◌, true, Some, None, cond, set, ap, sym, ◌∙◌}
use Rattle.std.proofs.lemmas.Bool.{OnTrue_at}
use Rattle.solve_solver.specs.declared.trail.Entry.{Entry}
use Rattle.solve_solver.specs.SolverInside.{values_by}
use Rattle.solve_solver.specs.SolverView.{SolverView}
use Rattle.solve_solver.specs.Trail.{assignment_of}
use Rattle.solve_solver.specs.Values.{set_value}
use Rattle.solve_solver.proofs.ValuesSet.{one_set, value_read, values_where, values_else}
use Rattle.solve_solver.proofs.solver.Solver.assume.Goals as goal

pub unreachable-requires : goal.unreachable-requires
unreachable-requires g c =
    let s = c.self.inside.learner.state in
    let var = c.args.literal.var in
    let vars = ap (λ (v : SolverView _ _). v.vars) c.self.view_is in
    let within : var < s.vars = rw vars c.requires.within in
    let by = values_where c.self.inside.solved s.vars s.entries c.self.inside.assumed.entries c.if-self.true ∙ ap (λ (v : SolverView _ _). v.values) c.self.view_is in
    let held = OnTrue_at c.if-self.true c.self.invariant.held in
    held.set_each var within (sym (value_read s.vars s.entries var within) ∙ ap (λ vs. set_value vs var) by ∙ c.requires.unset)

pub push-requires-clause-unset : goal.push-requires-clause-unset
push-requires-clause-unset g c =
    let s = c.self.inside.learner.state in
    let assumed = c.self.inside.assumed.entries in
    let var = c.args.literal.var in
    let vars = ap (λ (v : SolverView _ _). v.vars) c.self.view_is in
    let by = values_else c.self.inside.solved s.vars s.entries assumed c.if-self.false ∙ ap (λ (v : SolverView _ _). v.values) c.self.view_is in
    sym (value_read s.vars assumed var (rw vars c.requires.within)) ∙ ap (λ vs. set_value vs var) by ∙ c.requires.unset

pub returns : goal.returns
returns g c =
    let s = c.self.inside.learner.state in
    let solved = c.self.inside.solved in
    let assumed = c.self.inside.assumed.entries in
    let l = c.args.literal in
    let entry : Entry = record { literal = l; decided = true } in
    let vars = ap (λ (v : SolverView _ _). v.vars) c.self.view_is in
    let within : l.var < s.vars = rw vars c.requires.within in
    let grown : values_by solved s.vars s.entries c.push.new.self.entries ≡ set (values_by solved s.vars s.entries assumed) l.var (Some l.plus) =
    sym (values_else solved s.vars s.entries c.push.new.self.entries c.if-self.false)
    ∙ rw c.push.ensures.entries (one_set s.vars entry assumed within)
    ∙ ap (λ vs. set vs l.var (Some l.plus)) (values_else solved s.vars s.entries assumed c.if-self.false) in
    let base : SolverView _ _ = record {
      vars = s.vars;
      clauses = s.clauses;
      atoms = s.atoms;
      theory = s.theory;
      assignment = cond solved (Some (assignment_of s.vars s.entries)) None;
      values = values_by solved s.vars s.entries assumed;
    } in
    ap (λ vs. record base { values = vs }) grown
    ∙ ap (λ (v : SolverView _ _). record v { values = set v.values l.var (Some l.plus) }) c.self.view_is
