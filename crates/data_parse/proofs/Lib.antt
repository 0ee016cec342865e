pub mod BareTexts
pub mod Folds
pub mod JudgedTexts
pub mod Nesting
pub mod OneText
pub mod Starts
pub mod Taken
