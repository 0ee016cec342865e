use Rattle.door_serve.specs.DoorState.{state_of}
use Rattle.app_serve.specs.Turned.{IsUnderWay}
use Rattle.app_serve.proofs.Turning.{left-over}
use Rattle.app_serve.proofs.service.Service.serve.Given as goal

-- the lines so far are answered
abbrev pub invariant-lines : goal.invariant-lines
invariant-lines g l =
    IsUnderWay g.F.Shelf.told g.F.Shelf.calls g.F.Shelf.faults g.S.Source.told g.S.Source.faults g.K.Keeper.told g.K.Keeper.calls g.K.Keeper.faults g.W.Sink.told g.W.Sink.faults
    l.initial.shelf l.shelf l.initial.input l.input l.initial.store l.store l.initial.out l.out (state_of l.initial.self.door).stored l.self.lines (state_of l.self.door)

abbrev pub decreases-lines : goal.decreases-lines
decreases-lines g l = left-over l.self.lines
