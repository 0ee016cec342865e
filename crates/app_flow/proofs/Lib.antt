pub mod OutsideLemmas
pub mod ToldLemmas
pub mod ReadsLemmas
