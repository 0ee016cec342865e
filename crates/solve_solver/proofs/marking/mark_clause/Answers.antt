use Rattle.std.proofs.Common.{◌<◌, false, get_or, length, arith}
use Rattle.std.proofs.lemmas.Bool.{both_ways}
use Rattle.std.proofs.lemmas.List.{take_all}
use Rattle.solve_solver.specs.declared.literal.PLit.{PLit}
use Rattle.solve_solver.specs.Units.{IsFalseIn}
use Rattle.solve_solver.proofs.SetMarks.{HasMarks-set, HasMarks-trans, IsMarkedBut-same, IsMarkedBut-false, only_of_clause, not_false_at}
use Rattle.solve_solver.proofs.marking.mark_clause.Goals as goal
use Rattle.solve_solver.proofs.marking.mark_clause.Goals.{then-not-is_same+else-not-is_false, else-not-is_same}

pub loop-literal-preserved : goal.loop-literal-preserved
loop-literal-preserved c =
    let es = c.args.trail.now.entries in
    let clause = c.args.clause.now in
    let i = c.loop-literal.literal-index in
    let d : PLit = record { var = 0; plus = false } in
    elim c.if-not-is_same.branch [
      | then-not-is_same+else-not-is_false w ↦
          let here : IsFalseIn es (get_or clause i d) = w.is_false.ensures.0 w.if-not-is_false.false in
          let below : (get_or clause i d).var < length c.loop-literal.marks = omega (arith, c.requires.within i d c.loop-literal-test.true, c.loop-literal.auto.marks) in
          rw w.marks-is (record {
            more = HasMarks-trans _ c.loop-literal.marks c.args.marks.now (HasMarks-set c.loop-literal.marks (get_or clause i d).var below) c.loop-literal.invariant.more;
            only = only_of_clause c.loop-literal.marks c.args.marks.now c.args.but clause i d c.loop-literal-test.true (λ e. absurd (both_ways c.is_same.result w.if-not-is_same.true (c.is_same.ensures.1 e))) c.loop-literal.invariant.only;
            marked = IsMarkedBut-false c.loop-literal.marks es c.args.but clause i d c.loop-literal-test.true below c.loop-literal.invariant.marked here;
          })
      | else-not-is_same w ↦
          rw w.marks-is (record {
            more = c.loop-literal.invariant.more;
            only = c.loop-literal.invariant.only;
            marked = IsMarkedBut-same c.loop-literal.marks es c.args.but clause i d c.loop-literal-test.true c.loop-literal.invariant.marked (c.is_same.ensures.0 w.if-not-is_same.false);
          })
    ]

pub returns-then-not-is_false : goal.returns-then-not-is_false
returns-then-not-is_false c =
    let d : PLit = record { var = 0; plus = false } in
    record {
      more = c.loop-literal.invariant.more;
      only = c.loop-literal.invariant.only;
      marked = tt;
      not_false = not_false_at c.args.trail.now.entries c.args.but c.args.clause.now c.loop-literal.literal-index d c.loop-literal-test.true
          (λ e. absurd (both_ways c.is_same.result c.if-not-is_same.true (c.is_same.ensures.1 e)))
          (λ f. absurd (both_ways c.is_false.result c.if-not-is_false.true (c.is_false.ensures.1 f)));
    }

pub returns : goal.returns
returns c = record {
  more = c.loop-literal.invariant.more;
  only = c.loop-literal.invariant.only;
  marked = rw (take_all c.loop-literal.literal-index c.args.clause.now c.loop-literal-test.false) at c.loop-literal.invariant.marked;
  not_false = tt;
}
