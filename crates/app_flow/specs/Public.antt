-- The words of this crate's public contracts.
pub use Rattle.app_flow.specs.Faults.{Rose, next_count}
pub use Rattle.app_flow.specs.Files.{Files, IsFound, IsWithin}
pub use Rattle.app_flow.specs.Told.{Appends, AppendsFront}
pub use Rattle.app_flow.specs.Outside.{IsRead, IsWritten}
pub use Rattle.app_flow.specs.Folders.{IsOpened, IsAbsence}
pub use Rattle.app_flow.specs.Shelves.{MemFileState, MemShelfState, SureShelfState, files_of, faults_after}
pub use Rattle.app_flow.specs.Sinks.{MemSinkState, SureSinkState, FailsNext, taken_of, told_after}
pub use Rattle.app_flow.specs.Adapters.{StdSinkState, DirShelfState}
