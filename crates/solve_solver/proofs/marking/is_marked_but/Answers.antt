use Rattle.std.proofs.Common.{◌≡◌, false, Some, get_or, set, IsTrue, refl, sym, ap, ◌∙◌, get_or-set_other}
use Rattle.std.proofs.lemmas.Bool.{both_ways, false≢true}
use Rattle.std.proofs.lemmas.List.{take_all}
use Rattle.solve_solver.specs.declared.literal.PLit.{PLit}
use Rattle.solve_solver.specs.Assignment.{value_at}
use Rattle.solve_solver.specs.Units.{IsFalseIn}
use Rattle.solve_solver.proofs.SetMarks.{IsMarkedBut-same, IsMarkedBut-other, not_marked_but, unmarked_after}
use Rattle.solve_solver.proofs.marking.is_marked_but.Goals as goal
use Rattle.solve_solver.proofs.marking.is_marked_but.Goals.{then-not-is_same+else-other-literal+else-not-is_marked_false, else-not-is_same, then-other-literal-via-then-other-literal, then-other-literal-via-else-other-literal+then-not-is_marked_false}

pub loop-other-preserved : goal.loop-other-preserved
loop-other-preserved c =
    let es = c.args.trail.now.entries in
    let clause = c.args.clause.now in
    let marks = c.args.marks.now in
    let l = c.args.literal in
    let i = c.loop-other.other-index in
    let d : PLit = record { var = 0; plus = false } in
    elim c.if-not-is_same.branch [
      | then-not-is_same+else-other-literal+else-not-is_marked_false w ↦
          IsMarkedBut-other marks l.var es (Some l) clause i d c.loop-other-test.true w.if-other-literal.false (w.is_marked_false.ensures.0 w.if-not-is_marked_false.false) c.loop-other.invariant
      | else-not-is_same w ↦
          IsMarkedBut-same _ es (Some l) clause i d c.loop-other-test.true c.loop-other.invariant (c.is_same.ensures.0 w.if-not-is_same.false)
    ]

pub returns : goal.returns
returns c =
    let whole = rw (take_all c.loop-other.other-index c.args.clause.now c.loop-other-test.false) at c.loop-other.invariant in
    (λ _. whole, λ _. refl)

pub returns-then-other-literal : goal.returns-then-other-literal
returns-then-other-literal c =
    let es = c.args.trail.now.entries in
    let clause = c.args.clause.now in
    let marks = c.args.marks.now in
    let l = c.args.literal in
    let i = c.loop-other.other-index in
    let d : PLit = record { var = 0; plus = false } in
    let other : ¬ (Some l ≡ Some (get_or clause i d)) = λ e. absurd (both_ways c.is_same.result c.if-not-is_same.true (c.is_same.ensures.1 e)) in
    let unmarked : ¬ (IsFalseIn es (get_or clause i d) × IsTrue (value_at (set marks l.var false) (get_or clause i d).var)) = elim c.then-other-literal.branch [
      | then-other-literal-via-then-other-literal w ↦ λ m. both_ways (value_at (set marks l.var false) (get_or clause i d).var) (ap (value_at (set marks l.var false)) w.if-other-literal.true ∙ unmarked_after marks l.var) m.1
      | then-other-literal-via-else-other-literal+then-not-is_marked_false w ↦ λ m. both_ways w.is_marked_false.result w.if-not-is_marked_false.true (w.is_marked_false.ensures.1 (m.0, sym (get_or-set_other marks l.var (get_or clause i d).var false false w.if-other-literal.false) ∙ m.1))
    ] in
    (λ f. absurd (false≢true f), λ h. absurd (not_marked_but (set marks l.var false) es (Some l) clause i d c.loop-other-test.true other unmarked h))
