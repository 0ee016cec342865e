use Rattle.std.proofs.Common.{◌<◌, false, length, reverse, sym, ap, ◌∙◌, arith}
use Rattle.std.proofs.lemmas.List.{get_or-reverse, length_push, length-reverse, take_all}
use Rattle.solve_solver.specs.declared.trail.Entry.{Entry}
use Rattle.solve_solver.specs.Assignment.{negated, value_at}
use Rattle.solve_solver.proofs.CollectedClauses.{collected_pushed, collected_passed}
use Rattle.solve_solver.proofs.marking.collect.Goals as goal
use Rattle.solve_solver.proofs.marking.collect.Goals.{then-marks-entry, else-marks-entry}

pub loop-passed-preserved : goal.loop-passed-preserved
loop-passed-preserved c =
    let entries = reverse c.args.entries.now in
    let marks = c.args.marks.now in
    let clause = c.loop-passed.clause.items in
    let i = c.loop-passed.passed in
    let l = c.args.literal in
    let known = c.loop-passed.invariant in
    let there : i < length c.args.entries.now = omega (arith, c.loop-passed-test.true) in
    let within : i < length entries = omega (arith, length-reverse c.args.entries.now, c.loop-passed-test.true) in
    let d : Entry = record { literal = record { var = 0; plus = false }; decided = false } in
    let read = get_or-reverse c.args.entries.now i d there in
    let marked_is = ap (λ (e : Entry). value_at marks e.literal.var) read in
    let opposite_is = ap (λ (e : Entry). negated e.literal) (sym read) in
    elim c.if-marks-entry.branch [
      | then-marks-entry w ↦
          rw (w.clause-is, w.push-then-marks-entry.ensures.items) (record {
            capacity = w.push-then-marks-entry.ensures.capacity ∙ known.capacity;
            few = omega (arith, known.few, length_push clause w.opposite.result);
            items = collected_pushed marks entries i d l clause w.opposite.result within (marked_is ∙ w.if-marks-entry.true) (w.opposite.ensures ∙ opposite_is) known.items;
          })
      | else-marks-entry w ↦
          rw w.clause-is (record {
            capacity = known.capacity;
            few = omega (arith, known.few);
            items = collected_passed marks entries i d l clause within (marked_is ∙ w.if-marks-entry.false) known.items;
          })
    ]

pub returns-clause-items : goal.returns-clause-items
returns-clause-items c = rw (take_all c.loop-passed.passed (reverse c.args.entries.now) (omega (arith, length-reverse c.args.entries.now, c.loop-passed-test.false))) at c.loop-passed.invariant.items
