pub mod Agreement
pub mod Chosen
pub mod Lists
pub mod MadeSame
pub mod Steps
pub mod Uniques
pub mod Whole
