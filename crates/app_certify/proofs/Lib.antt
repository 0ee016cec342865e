pub mod Cleared
pub mod Lists
pub mod ProveLaws
pub mod Reached
pub mod RecheckLaws
pub mod Statuses
