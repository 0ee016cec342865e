use Rattle.std.proofs.Common.{rules, ◌≡◌, refl}
use Rattle.std.specs.Prelude.{Err, option_copied}
use Rattle.app_flow.proofs.OutsideLemmas.{read-as}
use Rattle.app_store.proofs.Ran.{kept-as}
use Rattle.door_serve.specs.DoorState.{state_of}
use Rattle.app_serve.specs.Ends.{of_door, of_put}
use Rattle.app_serve.specs.Turned.{line_seen}
use Rattle.app_serve.proofs.Replying.{not-answered, not-put, put-whole}
use Rattle.app_serve.proofs.service.answer.Goals as goal

pub returns-in_err-reply-clause-replied : goal.returns-in_err-reply-clause-replied
returns-in_err-reply-clause-replied g c =
    let is : c.from_residual.result ≡ Err (of_door c.in_err-reply.field-0.0) = search rules in
    let d = c.in_err-reply.ensures in (
      d.calls,
      d.made,
      not-answered g.F.Shelf.told g.F.Shelf.calls g.F.Shelf.faults g.K.Keeper.told g.K.Keeper.calls g.K.Keeper.faults g.W.Sink.told g.W.Sink.faults (line_seen (option_copied c.args.line)) (state_of c.args.door.now) (state_of c.reply_to.new.door)
          c.args.shelf.now c.reply_to.new.shelf c.args.store.now c.reply_to.new.store c.args.out.now c.in_err-reply.field-0.0 _ c.requires.held d is,
      read-as g.F.Shelf.told g.F.Shelf.calls g.F.Shelf.faults c.args.shelf.now c.reply_to.new.shelf _ _ ⊥ (λ b. absurd b) d.read,
      kept-as g.K.Keeper.calls g.K.Keeper.faults c.args.store.now c.reply_to.new.store _ _ ⊥ (λ b. absurd b) d.kept_so,
    )

pub returns-in_err-put_reply-clause-replied : goal.returns-in_err-put_reply-clause-replied
returns-in_err-put_reply-clause-replied g c =
    let is : c.from_residual-in_err-put_reply.result ≡ Err (of_put c.in_err-put_reply.field-0.0) = search rules in
    let d = c.in_ok-reply.ensures in
    let e = c.in_err-put_reply.ensures in (
      d.calls,
      d.made,
      not-put g.F.Shelf.told g.F.Shelf.calls g.F.Shelf.faults g.K.Keeper.told g.K.Keeper.calls g.K.Keeper.faults g.W.Sink.told g.W.Sink.faults (line_seen (option_copied c.args.line)) (state_of c.args.door.now) (state_of c.reply_to.new.door)
          c.args.shelf.now c.reply_to.new.shelf c.args.store.now c.reply_to.new.store c.in_ok-reply.reply c.args.out.now c.put_reply.new.out c.in_err-put_reply.field-0.0 _ (Err c.in_err-put_reply.field-0.0) refl d is e.cut e.untouched e.memory e.counted,
      read-as g.F.Shelf.told g.F.Shelf.calls g.F.Shelf.faults c.args.shelf.now c.reply_to.new.shelf _ _ ⊥ (λ b. absurd b) d.read,
      kept-as g.K.Keeper.calls g.K.Keeper.faults c.args.store.now c.reply_to.new.store _ _ ⊥ (λ b. absurd b) d.kept_so,
    )

pub returns-clause-replied : goal.returns-clause-replied
returns-clause-replied g c =
    let d = c.in_ok-reply.ensures in (
      d.calls,
      d.made,
      put-whole g.F.Shelf.told g.F.Shelf.calls g.F.Shelf.faults g.K.Keeper.told g.K.Keeper.calls g.K.Keeper.faults g.W.Sink.told g.W.Sink.faults (line_seen (option_copied c.args.line)) (state_of c.args.door.now) (state_of c.reply_to.new.door)
          c.args.shelf.now c.reply_to.new.shelf c.args.store.now c.reply_to.new.store c.in_ok-reply.reply c.args.out.now c.put_reply.new.out d c.in_ok-put_reply.ensures.done,
      read-as g.F.Shelf.told g.F.Shelf.calls g.F.Shelf.faults c.args.shelf.now c.reply_to.new.shelf _ _ ⊥ (λ b. absurd b) d.read,
      kept-as g.K.Keeper.calls g.K.Keeper.faults c.args.store.now c.reply_to.new.store _ _ ⊥ (λ b. absurd b) d.kept_so,
    )
