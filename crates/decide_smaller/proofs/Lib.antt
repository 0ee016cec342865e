pub mod Fitted
mod Picked
