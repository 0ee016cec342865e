-- The words that speak of online migrations.
pub use Rattle.online_meaning.specs.Finds.{finds_of, set_finds_of, init_finds_of}
pub use Rattle.online_meaning.specs.Settled.{HaveSameRecords, FindsSettle, FindsSettleAll}
pub use Rattle.online_meaning.specs.Deep.{added_at, sources, deep_cells, finds_behind, deep_finds}
pub use Rattle.online_meaning.specs.Marks.{is_slow, reads_deeply, finds_deeply, slow_records}
pub use Rattle.online_meaning.specs.Events.{Event, IsAccepted, changed_by, marks_of, marked_after}
pub use Rattle.online_meaning.specs.Rollouts.{Rollout, begun, is_marked, after_kept, switched, evaluations, evaluated, kept_after, after_event, IsTaken, Goes, IsRight, RolloutsEndRight, SwitchesEvaluateMarked}
pub use Rattle.online_meaning.specs.Laws.{ReadsAlike, MarksSuffice, AddedStay, AreOldFields, OldFieldsAreRead}
pub use Rattle.online_meaning.specs.Known.{added_values, IsKnown, KnowledgeStays, places_to, slow_after, SlowRecordsGo}
pub use Rattle.online_meaning.specs.Worked.{WorkedRollout}
