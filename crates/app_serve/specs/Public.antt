-- The words of this crate's public contracts.
pub use Rattle.app_serve.specs.Words.{is_serve}
pub use Rattle.app_serve.specs.Lines.{lines_of, read_as, AreLines, IsFrontOf}
pub use Rattle.app_serve.specs.Served.{door_over, AreAnswered, IsEnd}
pub use Rattle.app_serve.specs.Run.{IsServed, IsUnserved, ServeEnds, IsServeRun}
