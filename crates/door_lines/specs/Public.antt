-- The words of this crate's public contracts.
pub use Rattle.door_lines.specs.Reading.{IsReadOn, IsWhole, StopsReading}
pub use Rattle.door_lines.specs.Sources.{MemSourceState, StdSourceState}
pub use Rattle.door_lines.specs.Lines.{LineBufState, held, IsInLine, IsRest, IsFirst, Answers, IsPlaced, HasEnded, SameLimits, IsNextLine}
