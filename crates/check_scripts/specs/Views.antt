-- The plain data that outcomes of the code stand for.
use Rattle.check_scripts.specs.declared.outcome.Outcome as code_outcome
use Rattle.check_scripts.specs.declared.outcome.Outcome.TheVariants.{Accepted, Leak, Undecided, TooLarge}
use Rattle.check_scripts.specs.Outcomes.{Outcome, accepted, leak, undecided, too_large}
use Rattle.check_report.specs.Views.{witness_data}

abbrev pub outcome_data : code_outcome.Outcome → Outcome
outcome_data (Accepted n) = accepted n
outcome_data (Leak w) = leak (witness_data w)
outcome_data (Undecided duty cycle) = undecided duty cycle
outcome_data (TooLarge duty terms nodes) = too_large duty terms nodes
