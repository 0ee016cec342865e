use Rattle.std.proofs.Common.{rules, ◌≡◌, ap}
use Rattle.std.specs.Prelude.{Err}
use Rattle.door_serve.specs.DoorState.{state_of}
use Rattle.app_serve.specs.Ends.{of_flow}
use Rattle.app_serve.proofs.Taking.{no-line, read-cut-line, read-line, short-line, starved}
use Rattle.app_serve.proofs.service.Service.turn.Goals as goal

pub returns-in_err-start-clause-turned : goal.returns-in_err-start-clause-turned
returns-in_err-start-clause-turned g c =
    let is : c.from_residual.result ≡ Err (of_flow c.in_err-start.field-0.0) = search rules in
    starved g.F.Shelf.told g.F.Shelf.calls g.F.Shelf.faults g.S.Source.told g.S.Source.faults g.K.Keeper.told g.K.Keeper.calls g.K.Keeper.faults g.W.Sink.told g.W.Sink.faults c.args.shelf.now c.args.input.now c.next_line.new.src c.args.store.now c.args.out.now c.args.self.now.lines c.next_line.new.self (state_of c.args.self.now.door)
    c.in_err-start.field-0.0 _ c.in_err-start.ensures.gives c.next_line.ensures.within c.next_line.ensures.never_falls is (λ e. c.in_err-start.ensures.counted (ap (λ z. Err z) e))

pub answer-requires-clause-short : goal.answer-requires-clause-short
answer-requires-clause-short g c =
    short-line (g.S.Source.told c.args.input.now) (g.S.Source.told c.next_line.new.src) c.args.self.now.lines c.next_line.new.self c.in-Text.start c.in-Text.end c.bytes-line.result.now
    (rw c.in-Text.is at c.in_ok-start.ensures.gives) c.requires.limit c.bytes-line.ensures

pub returns-in-Text-clause-turned : goal.returns-in-Text-clause-turned
returns-in-Text-clause-turned g c =
    let gives = rw c.in-Text.is at c.in_ok-start.ensures.gives in
    let short = short-line (g.S.Source.told c.args.input.now) (g.S.Source.told c.next_line.new.src) c.args.self.now.lines c.next_line.new.self c.in-Text.start c.in-Text.end c.bytes-line.result.now gives c.requires.limit c.bytes-line.ensures in
    read-line g.F.Shelf.told g.F.Shelf.calls g.F.Shelf.faults g.S.Source.told g.S.Source.faults g.K.Keeper.told g.K.Keeper.calls g.K.Keeper.faults g.W.Sink.told g.W.Sink.faults c.args.shelf.now c.args.input.now c.next_line.new.src c.args.store.now c.args.out.now c.args.self.now.lines c.next_line.new.self (state_of c.args.self.now.door) c.answer.new.shelf c.answer.new.store c.answer.new.out (state_of c.answer.new.door) c.answer.result
    c.in-Text.start c.in-Text.end c.bytes-line.result.now gives c.next_line.ensures.within c.next_line.ensures.never_falls c.bytes-line.ensures short c.answer.ensures.replied c.answer.ensures.written

pub returns-in-Cut-clause-turned : goal.returns-in-Cut-clause-turned
returns-in-Cut-clause-turned g c =
    read-cut-line g.F.Shelf.told g.F.Shelf.calls g.F.Shelf.faults g.S.Source.told g.S.Source.faults g.K.Keeper.told g.K.Keeper.calls g.K.Keeper.faults g.W.Sink.told g.W.Sink.faults c.args.shelf.now c.args.input.now c.next_line.new.src c.args.store.now c.args.out.now c.args.self.now.lines c.next_line.new.self (state_of c.args.self.now.door) c.answer-in-Cut.new.shelf c.answer-in-Cut.new.store c.answer-in-Cut.new.out (state_of c.answer-in-Cut.new.door) c.answer-in-Cut.result
    (rw c.in-Cut.is at c.in_ok-start.ensures.gives) c.requires.limit c.next_line.ensures.within c.next_line.ensures.never_falls c.answer-in-Cut.ensures.replied c.answer-in-Cut.ensures.written

pub returns-in-End-clause-turned : goal.returns-in-End-clause-turned
returns-in-End-clause-turned g c =
    no-line g.F.Shelf.told g.F.Shelf.calls g.F.Shelf.faults g.S.Source.told g.S.Source.faults g.K.Keeper.told g.K.Keeper.calls g.K.Keeper.faults g.W.Sink.told g.W.Sink.faults c.args.shelf.now c.args.input.now c.next_line.new.src c.args.store.now c.args.out.now c.args.self.now.lines c.next_line.new.self (state_of c.args.self.now.door) (rw c.in-End.is at c.in_ok-start.ensures.gives) c.next_line.ensures.within c.next_line.ensures.never_falls
