pub mod Dependence
pub mod Order
pub mod Places
pub mod Public
pub mod Search
pub mod SortGraph
pub mod Strata
pub mod Visits
