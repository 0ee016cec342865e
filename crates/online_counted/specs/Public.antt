-- The word that speaks of counted evaluations.
pub use Rattle.online_counted.specs.Counted.{risen}
