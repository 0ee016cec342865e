-- The words of this crate's public contracts.
pub use Rattle.store_apply.specs.Settling.{IsRenumbered, MaySettle}
pub use Rattle.store_apply.specs.Notes.{notes_of, new_notes}
pub use Rattle.store_apply.specs.Applied.{initial_of, IsApplied}
pub use Rattle.store_apply.specs.Laws.{SpecsSettle, ScriptsStart, ScriptSettles, AppliedOne, AppliedRights}
