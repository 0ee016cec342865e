use Rattle.std.proofs.Common.{◌≡◌, ◌+◌, ◌-◌, ◌≤◌, length, sym, ap, subst, arith, Ok}
use Rattle.door_lines.specs.Lines.{Answers, LineBufState}
use Rattle.door_lines.proofs.Answered.{last_answer}
use Rattle.door_lines.proofs.lines.LineBuf.last_line.Goals as goal

pub returns-clause-last : goal.returns-clause-last
returns-clause-last c = λ rest r.
    let inside : c.self.inside.to ≤ length c.self.inside.room.items = omega (arith, c.self.inside.room.ok) in
    let room = subst (λ (b : LineBufState). b.to ≤ length b.room) c.self.view_is inside in
    let from = ap (λ (b : LineBufState). b.from) c.self.view_is in
    let to = ap (λ (b : LineBufState). b.to) c.self.view_is in
    let dropped = ap (λ (b : LineBufState). b.dropped) c.self.view_is in
    subst (λ (b : LineBufState). Answers (Unit {0}) b rest (Ok c.line-line.result)) (sym c.pass.ensures)
    (last_answer c.args.self.now (c.self.inside.to - c.self.inside.from) _ c.line-line.ensures
    (omega (arith, from, to)) room c.requires (omega (arith, dropped)) rest r)
