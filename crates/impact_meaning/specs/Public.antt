-- The words that speak of what weakenings newly allow.
pub use Rattle.impact_meaning.specs.Undeclared.{as_update, undeclared, is_weakening, weakenings_of}
pub use Rattle.impact_meaning.specs.Weakened.{WeakAt, IsExampleOf}
pub use Rattle.impact_meaning.specs.Listed.{IsWeakening}
pub use Rattle.impact_meaning.specs.Laws.{UndeclaredAreScripts, WeakeningsAreListed, WeakeningsFailAlike}
