pub mod FormLemmas
pub mod MarkLemmas
pub mod MoveLemmas
pub mod NormalForms
pub mod Placement
pub mod Sharing
pub mod TermLemmas
pub mod TreeLemmas
