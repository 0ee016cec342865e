-- The words of this crate's public contracts.
pub use Rattle.decide_verdict.specs.Verdicts.{IsOverLimit, IsShallowOverLimit, IsSafe, IsFoundIn, IsTried, IsUnknown, IsTooLargeBy, IsVerdictOn, IsVerdict}
