pub mod Public
pub mod Reports
pub mod Views
