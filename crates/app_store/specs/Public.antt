-- The words of this crate's public contracts.
pub use Rattle.app_store.specs.Words.{Command, of_no_file, of_one_file, of_two_files, command_of}
pub use Rattle.app_store.specs.Seen.{command_seen}
pub use Rattle.app_store.specs.Calls.{Call, fetched_by, kept_by}
pub use Rattle.app_store.specs.Told.{Told, told_all, IsKept}
pub use Rattle.app_store.specs.Stages.{StoreStage, StorePart, Decides, Makes}
pub use Rattle.app_store.specs.Store.{Loads, IsFree, Holds, MayRise}
pub use Rattle.app_store.specs.Data.{IsOfTables, IsNoData, DataOf, DataOfFile}
pub use Rattle.app_store.specs.Answer.{AsksFree, AsksHeld, AsksRising, AsksSchema, AsksBase, ChecksScript, Inits, ChecksHeld, IsDecision, AppliesScript, Shows, Runs, end_of, stored_by, store_refusal_status, status_of, text_of}
pub use Rattle.app_store.specs.Report.{ok_version_text, applied_text, data_text, store_refusal_text}
pub use Rattle.app_store.specs.Ends.{IsStoppedBy, Reports, Stores, Ends}
pub use Rattle.app_store.specs.Headline.{IsHeld, AsksOver, IsAskedOf, IsFaulty, IsSettledBy, CheckHeadline, IsCarriedOut, ApplyHeadline, IsInitialised, IsInitAsked, InitHeadline, ShowHeadline, StoreHeadline}
pub use Rattle.app_store.specs.Run.{told_by, IsStoreRun}
