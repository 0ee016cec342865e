pub mod Assigned
pub mod Below
pub mod FormulaLaws
pub mod Lists
pub mod Made
pub mod Padding
