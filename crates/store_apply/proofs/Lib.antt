pub mod AppliedLaws
pub mod EmptyBases
pub mod Lookups
pub mod Moving
pub mod NoteLists
pub mod SettledSchemas
