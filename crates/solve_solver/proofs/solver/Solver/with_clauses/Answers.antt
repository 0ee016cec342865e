use Rattle.std.proofs.Common.{length, refl, ap, sym, ◌∙◌, arith}
use Rattle.solve_solver.specs.ContextView.{ContextView}
use Rattle.solve_solver.specs.Trail.{TrailView}
use Rattle.solve_solver.proofs.ValuesSet.{none_set}
use Rattle.solve_solver.proofs.solver.Solver.with_clauses.Goals as goal

pub invariant_of-result : goal.invariant_of-result
invariant_of-result g c =
    let state = c.in_ok-learner.ensures.state in
    let vars = ap (λ (v : ContextView _ _). v.vars) state in
    let clauses = ap (λ (v : ContextView _ _). v.clauses) state in
    record {
      held = tt;
      few = omega (arith, ap length clauses, c.requires.few_clauses);
      within = rw (vars, clauses) c.requires.within;
      assumed_each = ap (λ (t : TrailView). t.vars) c.in_ok-assumed.ensures ∙ sym vars;
    }

pub returns : goal.returns
returns g c = rw (c.in_ok-learner.ensures.state, c.in_ok-assumed.ensures, none_set c.args.vars) refl
