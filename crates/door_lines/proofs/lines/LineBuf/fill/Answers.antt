use Rattle.std.proofs.Common.{◌≡◌, ◌+◌, ◌≤◌, length, take, ap, subst, ◌∙◌, arith}
use Rattle.std.specs.Prelude.{slice_range}
use Rattle.std.specs.Io.KnownBytes.{Consumes}
use Rattle.door_lines.specs.Lines.{LineBufState}
use Rattle.door_lines.proofs.Ranges.{kept_range}
use Rattle.door_lines.proofs.RestLemmas.{filled, held_stood, stood}
use Rattle.door_lines.proofs.lines.LineBuf.fill.Goals as goal

pub returns-in_err-n-clause-came : goal.returns-in_err-n-clause-came
returns-in_err-n-clause-came g c =
    let is = c.self.view_is in
    let from = ap (λ (b : LineBufState). b.from) is in
    let to = ap (λ (b : LineBufState). b.to) is in
    let kept = subst (λ (b : LineBufState). take b.to c.take_into.new.room.items ≡ take b.to b.room) is c.take_into.ensures.kept in
    let stands = held_stood c.args.self.now (record c.args.self.now { room = c.take_into.new.room.items; from = c.self.inside.from; to = c.self.inside.to }) (omega (arith, from, to)) kept from to in
    stood _ _ c.args.self.now _ c.in_err-n.ensures.told stands (ap (λ (b : LineBufState). b.dropped) is) (ap (λ (b : LineBufState). b.taken) is)
    (record { line_limit = ap (λ (b : LineBufState). b.line_limit) is; budget = ap (λ (b : LineBufState). b.budget) is })

pub returns-in_err-n-clause-front : goal.returns-in_err-n-clause-front
returns-in_err-n-clause-front g c =
    let is = c.self.view_is in
    let from = ap (λ (b : LineBufState). b.from) is in
    let to = ap (λ (b : LineBufState). b.to) is in
    let kept = subst (λ (b : LineBufState). take b.to c.take_into.new.room.items ≡ take b.to b.room) is c.take_into.ensures.kept in
    kept_range c.args.self.now.room c.take_into.new.room.items c.args.self.now.from c.args.self.now.to (omega (arith, from, to)) kept

pub returns-clause-came : goal.returns-clause-came
returns-clause-came g c =
    let is = c.self.view_is in
    let from = ap (λ (b : LineBufState). b.from) is in
    let to = ap (λ (b : LineBufState). b.to) is in
    let taken = ap (λ (b : LineBufState). b.taken) is in
    let kept = subst (λ (b : LineBufState). take b.to c.take_into.new.room.items ≡ take b.to b.room) is c.take_into.ensures.kept in
    let consumed = subst (λ t. Consumes (g.S.Source.told c.args.src.now) (g.S.Source.told c.take_into.new.src) (slice_range c.take_into.new.room.items t (t + c.in_ok-n.n))) to c.in_ok-n.ensures.taken in
    filled _ _ c.args.self.now _ c.in_ok-n.n (omega (arith, from, to)) kept from (ap (λ k. k + c.in_ok-n.n) to)
    (omega (arith, c.in_ok-n.ensures.fits, c.take_into.ensures.size, c.take_into.new.room.ok)) (ap (λ (b : LineBufState). b.dropped) is) (ap (λ k. k + c.in_ok-n.n) taken)
    (record { line_limit = ap (λ (b : LineBufState). b.line_limit) is; budget = ap (λ (b : LineBufState). b.budget) is }) consumed

pub returns-clause-front : goal.returns-clause-front
returns-clause-front g c =
    let is = c.self.view_is in
    let from = ap (λ (b : LineBufState). b.from) is in
    let to = ap (λ (b : LineBufState). b.to) is in
    let kept = subst (λ (b : LineBufState). take b.to c.take_into.new.room.items ≡ take b.to b.room) is c.take_into.ensures.kept in
    kept_range c.args.self.now.room c.take_into.new.room.items c.args.self.now.from c.args.self.now.to (omega (arith, from, to)) kept
