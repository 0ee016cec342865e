-- The words of this crate's public contracts.
pub use Rattle.app_impact.specs.Words.{impact_of}
pub use Rattle.app_impact.specs.Report.{behind_first_line, large_text, impacts_text, example_text, cyclic_text, shown_text, effect_text, impact_text}
pub use Rattle.app_impact.specs.Answer.{IsFound, Finds, FindsFiles, end_of, IsAnswer, status_of, text_of}
pub use Rattle.app_impact.specs.Ends.{IsPut, ImpactEnds}
pub use Rattle.app_impact.specs.Headline.{AllowsNobody, IsTrueOf, IsTold, IsFaulty, ImpactHeadline}
pub use Rattle.app_impact.specs.Run.{IsImpactRun}
