-- The words that speak of the trees of databases' texts.
pub use Rattle.data_tree.specs.Answers.{answer, IsNotGrammar, IsOver, Means}
pub use Rattle.data_tree.specs.Causes.{Stands, IsRefused}
pub use Rattle.data_tree.specs.Literals.{lit_at}
pub use Rattle.data_tree.specs.Grammar.{rule, data_form}
pub use Rattle.data_tree.specs.Texts.{IsSpelled, IsDataText}
