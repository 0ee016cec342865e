-- The words of the door.
pub use Rattle.door_meaning.specs.State.{State, NoneAhead, AllStale}
pub use Rattle.door_meaning.specs.Replies.{Reply, reply_data, reply_text, tells_change}
pub use Rattle.door_meaning.specs.Names.{principal_named, stands_in}
pub use Rattle.door_meaning.specs.Sessions.{Outcome, entered, opened, closed, renewed}
pub use Rattle.door_meaning.specs.Records.{value_read, ids_shown, Setting, ready_setting, Making, is_made_by, judged_making, ready_removal}
pub use Rattle.door_meaning.specs.Records.{read_stage, find_stage, write_stage, create_stage, delete_stage}
pub use Rattle.door_meaning.specs.Migrates.{moved_session, IsMigrated, Migrates, IsMigration}
pub use Rattle.door_meaning.specs.Step.{IsAnswered, MayFetch, IsBadAt, Line, LineMayFetch, DoorStep, DoorRun}
