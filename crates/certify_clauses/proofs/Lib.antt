pub mod PathStates
pub mod Pending
pub mod Refuting
pub mod ValuesOn
