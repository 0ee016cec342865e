-- Why a run of `serve` ends before its input.
use Rattle.app_files.specs.declared.status.Status.{Status}
use Rattle.app_files.specs.declared.status.Status.TheVariants as status
use Rattle.door_lines.specs.declared.source.FlowErr.{FlowErr}
use Rattle.door_lines.specs.declared.source.FlowErr.TheVariants as flow
use Rattle.door_meaning.specs.declared.put.PutErr.{PutErr}
use Rattle.door_meaning.specs.declared.put.PutErr.TheVariants as put
use Rattle.door_serve.specs.declared.door_err.DoorErr.{DoorErr}
use Rattle.door_serve.specs.declared.door_err.DoorErr.TheVariants as door
use Rattle.app_serve.specs.declared.serve_err.ServeErr.{ServeErr}
use Rattle.app_serve.specs.declared.serve_err.ServeErr.TheVariants.{ReadFault, WriteFault, StoreFault, OutOfMemory, TooLong}

abbrev pub of_flow : FlowErr → ServeErr
of_flow flow.ReadFault = ReadFault
of_flow (flow.TooLong limit) = TooLong
of_flow flow.Budget = TooLong
of_flow flow.OutOfMemory = OutOfMemory

abbrev pub of_door : DoorErr → ServeErr
of_door door.ReadFault = ReadFault
of_door door.StoreFault = StoreFault
of_door door.OutOfMemory = OutOfMemory

abbrev pub of_put : PutErr → ServeErr
of_put put.WriteFault = WriteFault
of_put put.OutOfMemory = OutOfMemory

abbrev pub status_of : ServeErr → Status
status_of ReadFault = status.ReadFault
status_of WriteFault = status.WriteFault
status_of StoreFault = status.StoreFault
status_of OutOfMemory = status.OutOfMemory
status_of TooLong = status.TooLong
