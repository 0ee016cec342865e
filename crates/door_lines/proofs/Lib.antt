pub mod Ranges
pub mod RestLemmas
pub mod Answered
pub mod Searched
pub mod TurnLemmas
