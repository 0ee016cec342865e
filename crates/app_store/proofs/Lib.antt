mod Decided
mod Finishing
mod Found
mod Headline
mod InitDecided
mod OneBase
mod OneStatus
pub mod Ran
mod Run
pub mod Staged
pub mod Typed
