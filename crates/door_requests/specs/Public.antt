-- The words that speak of requests.
pub use Rattle.door_requests.specs.Answers.{answer, IsNotGrammar, IsOver, Means}
pub use Rattle.door_requests.specs.Causes.{Stands, IsRefused}
pub use Rattle.door_requests.specs.Grammar.{rule, line_form}
pub use Rattle.door_requests.specs.Texts.{IsSpelled, IsLineOf}
pub use Rattle.door_requests.specs.Refused.{IsRefusedAs}
