-- The words of this crate's public contracts.
pub use Rattle.text_print.specs.Exprs.{spelled_expr, spelled_set}
pub use Rattle.text_print.specs.Models.{spelled_policy, spelled_spec}
pub use Rattle.text_print.specs.Commands.{spelled_script}
pub use Rattle.text_print.specs.Marks.{number, quoted, text_of_marks}
pub use Rattle.text_print.specs.Reprinted.{AreOf, AreTokens, HaveSameTokens, IsPrinted, IsReprinted, lexeme}
