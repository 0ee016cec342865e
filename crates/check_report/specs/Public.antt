-- The words that speak of the reports on a script.
pub use Rattle.check_report.specs.Views.{witness_data}
pub use Rattle.check_report.specs.Reports.{target_name, kind_text, duty_text, cycle_text, undecided_text, too_large_text}
