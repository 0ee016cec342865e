-- The words of this crate's public contracts.
pub use Rattle.app_run.specs.Run.{MatchServe, IsRun}
