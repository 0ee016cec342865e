use Rattle.std.proofs.Common.{◌≡◌, ◌+◌, ◌-◌, ◌≤◌, length, sym, ap, subst, arith, Ok}
use Rattle.std.specs.Prelude.{slice_range}
use Rattle.door_lines.specs.Finds.{IsFirstNewline}
use Rattle.door_lines.specs.Lines.{Answers, LineBufState, IsInLine}
use Rattle.door_lines.proofs.Searched.{newline_found, none_held}
use Rattle.door_lines.proofs.lines.LineBuf.whole_line.Goals as goal

pub returns-in_err-end-clause-none : goal.returns-in_err-end-clause-none
returns-in_err-end-clause-none c =
    let found = rw c.deref.ensures.value at c.in_err-end.ensures in
    let behind = subst (λ (b : LineBufState). IsInLine (slice_range b.room c.args.start b.to)) c.self.view_is found in
    rw c.from_residual.ensures (none_held c.args.self.now c.args.start c.requires.ordered c.requires.within c.requires.in_line behind)

pub returns-clause-some : goal.returns-clause-some
returns-clause-some c = λ rest r.
    let newline = rw c.deref.ensures.value at c.in_ok-end.ensures in
    let found = subst (λ (b : LineBufState). IsFirstNewline (slice_range b.room c.args.start b.to) c.in_ok-end.field-0) c.self.view_is newline in
    let inside : c.self.inside.to ≤ length c.self.inside.room.items = omega (arith, c.self.inside.room.ok) in
    let room = subst (λ (b : LineBufState). b.to ≤ length b.room) c.self.view_is inside in
    let from = ap (λ (b : LineBufState). b.from) c.self.view_is in
    subst (λ (b : LineBufState). Answers ⊥ b rest (Ok c.line-line.result)) (sym c.pass.ensures)
    (newline_found c.args.self.now c.args.start c.in_ok-end.field-0 (c.args.start + c.in_ok-end.field-0 - c.self.inside.from) _
    c.requires.ordered c.requires.within room c.requires.in_line found (omega (arith, from, c.requires.ordered)) c.line-line.ensures rest r)
