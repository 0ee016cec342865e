pub mod Distinct
pub mod Models
pub mod PairModels
pub mod PairState
pub mod Sides
pub mod Undo
