use Rattle.std.proofs.Common.{◌≡◌, Some, None, false, get_or, take, sym, ap, ◌∙◌}
use Rattle.solve_solver.specs.declared.literal.PLit.{PLit}
use Rattle.solve_solver.specs.Units.{IsFalseIn, IsUnit}
use Rattle.solve_solver.specs.Trail.{value_in}
use Rattle.solve_solver.proofs.ClauseStates.{IsPassed, IsPassed-more_false, IsPassed-more_same, IsPassed-more_unset, IsOpen-true}
use Rattle.solve_solver.proofs.Trails.{value_in-None}
use Rattle.solve_solver.proofs.units.clause_state.Goals as goal
use Rattle.solve_solver.proofs.units.clause_state.Goals.{in-Some-false, in-None+in-Some, in-None+in-None-unset}

pub loop-literal-preserved : goal.loop-literal-preserved
loop-literal-preserved c =
    let es = c.args.trail.now.entries in
    let clause = c.args.clause.now in
    let d : PLit = record { var = 0; plus = false } in
    elim c.match-literal_value.branch [
      | in-Some-false w ↦
          let here : IsFalseIn es (get_or clause c.loop-literal.literal-index d) = sym c.literal_value.ensures ∙ w.in-Some-false.is ∙ ap Some w.in-Some-false.field-0-test in
          rw w.unset-is (IsPassed-more_false es clause c.loop-literal.literal-index d c.loop-literal.unset c.loop-literal-test.true c.loop-literal.invariant here)
      | in-None+in-None-unset w ↦
          let here : value_in es (get_or clause c.loop-literal.literal-index d).var ≡ None = value_in-None es _ (sym c.literal_value.ensures ∙ w.in-None.is) in
          let passed : IsPassed es (take c.loop-literal.literal-index clause) None = rw w.in-None-unset.is at c.loop-literal.invariant in
          rw w.unset-is (IsPassed-more_unset es clause c.loop-literal.literal-index d c.loop-literal-test.true passed here)
      | in-None+in-Some w ↦
          let passed : IsUnit es (take c.loop-literal.literal-index clause) w.in-Some.other = rw w.in-Some.is at c.loop-literal.invariant in
          rw w.unset-is (IsPassed-more_same es clause c.loop-literal.literal-index d w.in-Some.other c.loop-literal-test.true passed (w.is_same.ensures.0 w.if-is_same.true))
    ]

pub returns-in-Some-true : goal.returns-in-Some-true
returns-in-Some-true c =
    let es = c.args.trail.now.entries in
    let d : PLit = record { var = 0; plus = false } in
    IsOpen-true es c.args.clause.now c.loop-literal.literal-index d c.loop-literal-test.true (sym c.literal_value.ensures ∙ c.in-Some-true.is ∙ ap Some c.in-Some-true.field-0-test)
