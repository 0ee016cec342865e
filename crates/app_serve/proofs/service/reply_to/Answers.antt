use Rattle.door_serve.specs.DoorState.{state_of}
use Rattle.app_serve.proofs.Replying.{cut-does}
use Rattle.app_serve.proofs.service.reply_to.Goals as goal

pub returns-in-None : goal.returns-in-None
returns-in-None g c =
    rw c.in-None.is
    (cut-does g.F.Shelf.told g.F.Shelf.calls g.F.Shelf.faults g.K.Keeper.told g.K.Keeper.calls g.K.Keeper.faults (state_of c.args.door.now) c.args.shelf.now c.args.store.now c.requires.held)
