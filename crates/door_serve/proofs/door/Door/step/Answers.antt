use Rattle.std.proofs.Common.{refl, subst}
use Rattle.std.specs.Prelude.{◌≢◌}
use Rattle.door_meaning.specs.Replies as plain
use Rattle.door_meaning.specs.declared.reply.Reply.TheVariants as answer
use Rattle.door_meaning.specs.Step.{Answered, Asked, Badly, DoorStep, IsAnswered, IsBadAt, LineMayFetch, MayFetch, Quietly, Unasked, Whole}
use Rattle.text_parse.specs.declared.syntax_err.SyntaxErr.{SyntaxErr}
use Rattle.text_parse.specs.declared.syntax_err.SyntaxErr.TheVariants as err
use Rattle.door_serve.specs.DoorState.{state_of}
use Rattle.door_serve.proofs.Doing.{does-nothing, does-starve-end, does-wider}
use Rattle.door_serve.proofs.door.Door.step.Goals as goal

pub returns-in_err-at-in-Err : goal.returns-in_err-at-in-Err
returns-in_err-at-in-Err g c =
    let st = state_of c.args.self.now in
    does-starve-end g.F.Shelf.told g.F.Shelf.calls g.F.Shelf.faults g.K.Keeper.told g.K.Keeper.calls g.K.Keeper.faults (LineMayFetch st (Whole c.args.line.now)) (Unasked refl)
    (DoorStep (g.F.Shelf.told c.args.shelf.now) st (Whole c.args.line.now)) st
    c.args.shelf.now c.args.store.now c.requires.held c.from_residual.result st c.from_residual.ensures.1 refl

pub returns-in-Ok-None : goal.returns-in-Ok-None
returns-in-Ok-None g c =
    let st = state_of c.args.self.now in
    let line = rw c.in-Ok-None.field-0-is at c.in-Ok-None.ensures.ok in
    does-nothing g.F.Shelf.told g.F.Shelf.calls g.F.Shelf.faults g.K.Keeper.told g.K.Keeper.calls g.K.Keeper.faults (LineMayFetch st (Whole c.args.line.now)) (Unasked refl)
    (DoorStep (g.F.Shelf.told c.args.shelf.now) st (Whole c.args.line.now)) st
    c.args.shelf.now c.args.store.now c.requires.held (record { reply = plain.Quiet; state = st }) answer.Quiet st (Quietly c.args.line.now line) refl refl refl

pub returns-in-Ok-Some : goal.returns-in-Ok-Some
returns-in-Ok-Some g c =
    let st = state_of c.args.self.now in
    let files = g.F.Shelf.told c.args.shelf.now in
    let request = c.in-Ok-Some.request in
    let line = rw c.in-Ok-Some.field-0-is at c.in-Ok-Some.ensures.ok in
    does-wider g.F.Shelf.told g.F.Shelf.calls g.F.Shelf.faults g.K.Keeper.told g.K.Keeper.calls g.K.Keeper.faults (MayFetch st request) (LineMayFetch st (Whole c.args.line.now))
    (λ calls may. Asked c.args.line.now request refl line may) (IsAnswered files st request) (DoorStep files st (Whole c.args.line.now))
    (λ calls outcome is. Answered c.args.line.now request calls outcome line is) st c.args.shelf.now c.answer.new.shelf c.args.store.now c.answer.new.store c.answer.result
    (state_of c.answer.new.self) c.answer.ensures

pub returns-in_ok-at-in-Err : goal.returns-in_ok-at-in-Err
returns-in_ok-at-in-Err g c =
    let st = state_of c.args.self.now in
    let bad = c.in_ok-at-in-Err.ensures in
    let other : c.in-Err.err ≢ err.OutOfMemory = λ is. subst (λ (e : SyntaxErr). IsBadAt c.args.line.now e c.in_ok-at-in-Err.at) is bad in
    does-nothing g.F.Shelf.told g.F.Shelf.calls g.F.Shelf.faults g.K.Keeper.told g.K.Keeper.calls g.K.Keeper.faults (LineMayFetch st (Whole c.args.line.now)) (Unasked refl)
    (DoorStep (g.F.Shelf.told c.args.shelf.now) st (Whole c.args.line.now)) st
    c.args.shelf.now c.args.store.now c.requires.held (record { reply = plain.BadLine c.in_ok-at-in-Err.at; state = st }) (answer.BadLine c.in_ok-at-in-Err.at) st
    (Badly c.args.line.now c.in-Err.err c.in_ok-at-in-Err.at (c.in-Err.ensures.refused other) bad) refl refl refl
