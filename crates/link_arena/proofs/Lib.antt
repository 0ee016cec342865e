pub mod LinksLemmas
pub mod InLemmas
pub mod LeadsLemmas
pub mod SpliceLemmas
pub mod LinkedLemmas
pub mod RingsLemmas
pub mod HoldLemmas
