pub mod CommandStarts
pub mod FieldLists
pub mod GrammarTexts
pub mod JudgedTexts
pub mod OneText
pub mod Steps
pub mod Turns
