use Rattle.std.proofs.Common.{◌≡◌, false, get_or, take, rules, arith}
use Rattle.std.proofs.lemmas.Bool.{OnFalse_at}
use Rattle.std.proofs.lemmas.List.{take_all}
use Rattle.solve_solver.specs.declared.literal.PLit.{PLit}
use Rattle.solve_solver.specs.Units.{IsFalseIn}
use Rattle.solve_solver.proofs.Looks.{Looked-other, Looked-false}
use Rattle.solve_solver.proofs.looking.look_into.Goals as goal
use Rattle.solve_solver.proofs.looking.look_into.Goals.{then-eq, else-eq+else-not-is_false}

pub loop-literal-preserved : goal.loop-literal-preserved
loop-literal-preserved c =
    let es = c.args.trail.now.entries in
    let clause = c.args.clause.now in
    let i = c.loop-literal.literal-index in
    let d : PLit = record { var = 0; plus = false } in
    elim c.if-eq.branch [
      | then-eq w ↦
          let e : get_or clause i d ≡ c.args.other = search rules in
          rw w.has_other-is (Looked-other es clause i d c.args.other c.loop-literal.has_other c.loop-literal-test.true e c.loop-literal.invariant)
      | else-eq+else-not-is_false w ↦
          let f : IsFalseIn es (get_or clause i d) = search rules in
          rw w.has_other-is (Looked-false es clause i d c.args.other c.loop-literal.has_other c.loop-literal-test.true f c.loop-literal.invariant)
    ]

pub returns-then-not-has_other : goal.returns-then-not-has_other
returns-then-not-has_other c =
    let all : take c.loop-literal.literal-index c.args.clause.now ≡ c.args.clause.now = take_all c.loop-literal.literal-index c.args.clause.now (omega arith) in
    rw all at (OnFalse_at c.if-not-has_other.true c.loop-literal.invariant.none)
