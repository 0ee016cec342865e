-- The words that speak of trees and of the texts that spell them.
pub use Rattle.text_tree.specs.Forms.{Form, Want, Cause, Spells, Begins, Breaks, loosened, may}
pub use Rattle.text_tree.specs.Levels.{SpellsPart, BeginsPart, IsTooDeep}
pub use Rattle.text_tree.specs.ExprGrammar.{Part, rule}
pub use Rattle.text_tree.specs.Grammar.{policy_form, spec_form, script_form}
pub use Rattle.text_tree.specs.Texts.{first_of, IsSpelled, IsSpelledAt, IsBegun, IsTextOf, IsSpecText, IsScriptText}
pub use Rattle.text_tree.specs.Placed.{expr_at, set_at, placed_expr, placed_set}
pub use Rattle.text_tree.specs.LiteralValue.{literal_value}
pub use Rattle.text_tree.specs.Stripped.{stripped_expr, stripped_set, stripped_policy, stripped_spec, stripped_script}
