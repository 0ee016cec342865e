-- The words that speak of verdicts on scripts.
pub use Rattle.check_scripts.specs.Views.{outcome_data}
pub use Rattle.check_scripts.specs.FailsBy.{IsGainOf, IsLeakOf, FailsBy}
pub use Rattle.check_scripts.specs.Picked.{id_at, who_of, use_of, leaking_cell, picked_witness, PickedWitnessesFail}
pub use Rattle.check_scripts.specs.Outcomes.{Outcome, model_of_sort, models_of_cycle, IsCleared, HasStrata, IsWithinLimits, IsDue, IsLeak, IsUndecided, IsTooLarge, IsUnsettled, IsFirst, IsOutcomeOver, IsOutcome}
pub use Rattle.check_scripts.specs.Sound.{ClearedDoNotFail, AcceptedAreSecure, LeaksAreReal, IsDecidable, IsSettled, DecidableAreSettled}
pub use Rattle.check_scripts.specs.Agree.{Standing, standing, OutcomesAgree}
