use Rattle.door_serve.specs.DoorState.{state_of}
use Rattle.door_serve.proofs.Migrating.{done-checked, done-stopped}
use Rattle.door_serve.proofs.door.Door.migrate.Goals as goal

pub returns-in-Ok : goal.returns-in-Ok
returns-in-Ok g c =
    done-checked g.F.Shelf.told g.F.Shelf.calls g.F.Shelf.faults g.K.Keeper.told g.K.Keeper.calls g.K.Keeper.faults (state_of c.args.self.now) c.args.name.now c.args.shelf.now _ c.args.store.now _ _ _
    c.in-Ok.checked c.in-Ok.ensures.asked c.carry_out.ensures.carried c.carry_out.ensures.stored c.carry_out.ensures.held c.carry_out.ensures.not_read

pub returns-in-Err : goal.returns-in-Err
returns-in-Err g c =
    done-stopped g.F.Shelf.told g.F.Shelf.calls g.F.Shelf.faults g.K.Keeper.told g.K.Keeper.calls g.K.Keeper.faults (state_of c.args.self.now) c.args.name.now c.args.shelf.now _ c.args.store.now
    c.stopped.result c.in-Err.why c.in-Err.ensures.asked c.requires c.stopped.ensures.replied c.stopped.ensures.not_read c.stopped.ensures.not_stored
