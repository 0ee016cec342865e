pub mod GrammarAnswers
pub mod GrammarFits
pub mod Refusals
pub mod WholeLists
