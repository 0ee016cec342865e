-- The words of this crate's public contracts.
pub use Rattle.app_files.specs.Status.{code_of}
pub use Rattle.app_files.specs.Stages.{StageOf, Stage, Then, Judges, Passes, Gives, Stopping, ComesTo, PartOf, Part, Inside, Calling, Next, InMemory}
pub use Rattle.app_files.specs.Words.{Names, names_of, is_operand, check_of, of_digits, count_of, gen_of, IsNoCommand}
pub use Rattle.app_files.specs.Loads.{IsNotGiven, FetchesWithin, Fetches, Reads}
pub use Rattle.app_files.specs.Typed.{after_command, schema_before, model_name, field_name, field_user_text, model_user_text, used_by_text, user_of, TypesSpec, HasFault, TypesScript}
pub use Rattle.app_files.specs.Generated.{file, spec_name, tightened_name, loosened_name, generated_files, generated, tightened_names, loosened_names}
pub use Rattle.app_files.specs.Answer.{SpecOf, ScriptOf, AsksTexts, Asks, both_files, IsChecked, Checks, ChecksText, ChecksTexts, ChecksFiles, Generates, Runs, end_of, IsAnswer, refusal_status, outcome_status, status_of, refusal_text, outcome_text, checked_text, first_line, found_text, generated_text, text_of, AreAlike}
pub use Rattle.app_files.specs.Report.{usage_text, missing_text, too_long_text, cause_text, syntax_text, still_used_text, expanded_text, types_text, spec_types_text, command_text, script_types_text, accepted_text}
pub use Rattle.app_files.specs.Ends.{IsReported, IsPut, Ends, IsCutOff, IsSilent, IsOfUsage}
pub use Rattle.app_files.specs.Headline.{LeaksCell, IsReal, Verdict, IsJudged, ShowsLeak, IsDecided, Headline}
pub use Rattle.app_files.specs.Run.{IsFilesRun}
