use Rattle.std.proofs.Common.{◌≡◌, ◌+◌, ◌≤◌, length, ap, arith}
use Rattle.std.proofs.lemmas.Result.{err_from_is_err_and}
use Rattle.door_lines.specs.Lines.{LineBufState}
use Rattle.door_lines.proofs.RestLemmas.{taken_then}
use Rattle.door_lines.proofs.TurnLemmas.{later_line, spent_line}
use Rattle.door_lines.proofs.lines.LineBuf.read_on.Goals as goal

pub returns-in_err-line-clause-gives : goal.returns-in_err-line-clause-gives
returns-in_err-line-clause-gives g c =
    let p = err_from_is_err_and c.from_residual.result c.from_residual.ensures.1 in
    rw p.1 (rw p.2 (later_line _ _ _ c.args.self.now c.loop-self.self c.turn.new.self _ c.loop-self.invariant.taken c.in_err-line.ensures.turn))

pub returns-in-Some-clause-gives : goal.returns-in-Some-clause-gives
returns-in-Some-clause-gives g c =
    later_line _ _ _ c.args.self.now c.loop-self.self c.turn.new.self _ c.loop-self.invariant.taken (rw c.in-Some.is at c.in_ok-line.ensures.turn)

pub loop-self-preserved : goal.loop-self-preserved
loop-self-preserved g c =
    let t = rw c.in-None.is at c.in_ok-line.ensures.turn in
    let was = c.loop-self.invariant in
    let taken = ap (λ (b : LineBufState). b.taken) c.self.view_is in
    let budget = ap (λ (b : LineBufState). b.budget) c.self.view_is in
    record {
      in_line = t.1;
      taken = taken_then _ _ _ c.args.self.now c.loop-self.self c.turn.new.self was.taken t.0;
      spent = λ spent. absurd (omega (arith, spent, was.taken.counted, was.taken.limits.budget, taken, budget));
      never_falls = omega (arith, was.never_falls, c.turn.ensures.never_falls);
    }

pub returns-clause-gives : goal.returns-clause-gives
returns-clause-gives g c =
    let taken = ap (λ (b : LineBufState). b.taken) c.self.view_is in
    let budget = ap (λ (b : LineBufState). b.budget) c.self.view_is in
    spent_line _ _ c.args.self.now c.loop-self.self c.loop-self.invariant.taken c.loop-self.invariant.in_line (omega (arith, taken, budget))
