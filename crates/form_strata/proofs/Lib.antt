pub mod Cycles
pub mod EdgesBelow
pub mod Members
pub mod OrderLemmas
pub mod PlaceLemmas
pub mod SoughtLaws
pub mod TermEdgeLemmas
pub mod VisitLaws
