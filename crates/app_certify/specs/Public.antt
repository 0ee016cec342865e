-- The words of this crate's public contracts.
pub use Rattle.app_certify.specs.Words.{Command, of_two_files, of_three_files, command_of}
pub use Rattle.app_certify.specs.Seen.{command_seen}
pub use Rattle.app_certify.specs.Report.{certified_text, bad_line_text, cyclic_text}
pub use Rattle.app_certify.specs.Answer.{IsCheckedAs, RechecksText, RechecksFile, Rechecks, end_of, IsAnswer, found_status, found_text, checked_text, status_of, text_of}
pub use Rattle.app_certify.specs.Ends.{IsPut, RecheckEnds}
pub use Rattle.app_certify.specs.Proved.{fault_status, IsProof, IsReportedAs, ProveEnds}
pub use Rattle.app_certify.specs.Headline.{ProveHeadline, IsCertified, IsRefusedAt, IsUnsettledBy, IsRecheckedBy, RecheckHeadline}
pub use Rattle.app_certify.specs.Run.{IsProveRun, IsRecheckRun, IsCertifyRun}
