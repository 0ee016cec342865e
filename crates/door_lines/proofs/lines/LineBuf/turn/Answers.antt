use Rattle.std.proofs.Common.{◌≡◌, ◌+◌, ◌<◌, sym, ap, subst, ◌∙◌, arith, Ok}
use Rattle.std.specs.Prelude.{slice_range}
use Rattle.std.proofs.lemmas.Result.{err_from_is_err_and}
use Rattle.door_lines.specs.Lines.{IsInLine, held}
use Rattle.door_lines.proofs.RestLemmas.{in_line_same, made_then}
use Rattle.door_lines.proofs.TurnLemmas.{failed_line, given_line, turn_of}
use Rattle.door_lines.proofs.lines.LineBuf.turn.Goals as goal

pub returns-in_err-n-clause-turn : goal.returns-in_err-n-clause-turn
returns-in_err-n-clause-turn g c =
    let p = err_from_is_err_and c.from_residual.result c.from_residual.ensures.1 in
    let made = c.make_room.ensures in
    let t = made_then _ _ c.args.self.now c.make_room.new.self c.fill.new.self made.rest made.same c.fill.ensures.came in
    let same : held c.fill.new.self ≡ held c.make_room.new.self =
    ap (λ k. slice_range c.fill.new.self.room k c.fill.new.self.to) c.fill.ensures.from
    ∙ ap (slice_range c.fill.new.self.room c.make_room.new.self.from) c.in_err-n.ensures.stood ∙ c.fill.ensures.front in
    rw p.1 (rw p.2 (failed_line _ _ c.args.self.now c.fill.new.self t (in_line_same _ _ same made.in_line)))

pub returns-then-n-eq0-clause-turn : goal.returns-then-n-eq0-clause-turn
returns-then-n-eq0-clause-turn g c =
    let made = c.make_room.ensures in
    let t = made_then _ _ c.args.self.now c.make_room.new.self c.fill.new.self made.rest made.same c.fill.ensures.came in
    let none : c.in_ok-n.n ≡ 0 = omega (arith, c.if-n-eq0.true) in
    let count = c.in_ok-n.ensures.count in
    let last = c.last_line.ensures.same in
    let below : c.last_line.new.self.taken < c.last_line.new.self.budget =
    omega (arith, none, count, last.taken, last.limits.budget, made.same.taken, t.limits.budget, c.requires.some) in
    given_line (Unit {0}) _ _ c.args.self.now c.fill.new.self c.last_line.new.self c.last_line.result t last
    (λ _. (c.in_ok-n.ensures.ended (ap (λ k. Ok k) none), below)) c.last_line.ensures.last

pub returns-clause-turn : goal.returns-clause-turn
returns-clause-turn g c =
    let made = c.make_room.ensures in
    let t = made_then _ _ c.args.self.now c.make_room.new.self c.fill.new.self made.rest made.same c.fill.ensures.came in
    let count = c.in_ok-n.ensures.count in
    let more : c.args.self.now.taken < c.fill.new.self.taken = omega (arith, c.if-n-eq0.false, count, made.same.taken) in
    let found = c.whole_line.ensures in
    turn_of _ _ c.args.self.now c.fill.new.self c.whole_line.new.self c.whole_line.result t more found.same found.kept found.none found.some
