-- The words that the public laws speak in.
pub use Rattle.text_grammar.specs.Causes.{Stands, GoesFirst, IsRefused}
pub use Rattle.text_grammar.specs.Firsts.{BeginsItself}
pub use Rattle.text_grammar.specs.Reading.{Answer, Got, Stuck}
pub use Rattle.text_grammar.specs.Answers.{answer, IsNotGrammar, IsOver, Means}
