use Rattle.std.proofs.Common.{ap, ◌∙◌, arith}
use Rattle.solve_solver.specs.LearnerView.{LearnerView}
use Rattle.solve_solver.proofs.Extensions.{IsExtended-unit, unit_within}
use Rattle.solve_solver.proofs.learner.Learner.propagate.Goals as goal

pub returns-in-Open-clause-end : goal.returns-in-Open-clause-end
returns-in-Open-clause-end g c =
    let clauses = ap (λ (v : LearnerView _ _). v.state.clauses) c.loop-literal.invariant.kept in
    rw (c.in-Open.is, clauses) at c.find_given-found.ensures.found

pub push-requires-clause-within : goal.push-requires-clause-within
push-requires-clause-within g c =
    let s = c.args.self.now.state in
    let base = c.loop-literal.invariant.kept in
    let clauses = ap (λ (v : LearnerView _ _). v.state.clauses) base in
    let vars = ap (λ (v : LearnerView _ _). v.state.vars) base in
    let unit = rw (c.in-UnitLiteral.is, clauses) at c.find_given-found.ensures.found in
    let within = rw (clauses, vars) at c.find_given-found.ensures.within in
    rw (c.loop-literal.invariant.vars, c.requires)
    (unit_within s.vars c.loop-literal.trail.entries s.clauses c.find_given-found.result.clause c.in-UnitLiteral.literal within unit)

pub loop-literal-smaller : goal.loop-literal-smaller
loop-literal-smaller g c = rw (c.push.ensures.vars, c.push.ensures.entries) (omega (arith, c.push.ensures.room))

pub loop-literal-preserved : goal.loop-literal-preserved
loop-literal-preserved g c =
    let s = c.args.self.now.state in
    let clauses = ap (λ (v : LearnerView _ _). v.state.clauses) c.loop-literal.invariant.kept in
    let vars = ap (λ (v : LearnerView _ _). v.state.vars) c.loop-literal.invariant.kept in
    let unit = rw (c.in-UnitLiteral.is, clauses) at c.find_given-found.ensures.found in
    let within = rw (clauses, vars) at c.find_given-found.ensures.within in
    record {
      kept = c.find_given-found.ensures.kept ∙ c.loop-literal.invariant.kept;
      vars = c.push.ensures.vars ∙ c.loop-literal.invariant.vars;
      extended = rw c.push.ensures.entries
          (IsExtended-unit s.vars s.clauses c.args.trail.now.entries c.loop-literal.trail.entries c.find_given-found.result.clause c.in-UnitLiteral.literal c.loop-literal.invariant.extended within unit);
    }
