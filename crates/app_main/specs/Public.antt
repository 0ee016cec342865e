-- The words of this crate's contracts.
pub use Rattle.app_main.specs.Arguments.{AreWordsOf}
