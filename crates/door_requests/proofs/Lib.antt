pub mod GrammarAnswers
pub mod GrammarFits
pub mod JudgedTexts
pub mod Nesting
pub mod OneText
pub mod Refusals
pub mod Starts
pub mod WholeLists
