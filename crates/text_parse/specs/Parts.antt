-- Parts of commands.
use Rattle.std.specs.Prelude.{ℕ, List, Option, Some, None, codes}
use Rattle.text_lexer.specs.declared.token.TokenKind.TheVariants as k
use Rattle.text_ast.specs.Pieces.{Piece}
use Rattle.text_tree.specs.declared.commands.Command.{Command}
use Rattle.text_tree.specs.declared.commands.Command.TheVariants as command
use Rattle.text_tree.specs.declared.models.FieldDef.{FieldDef}
use Rattle.text_tree.specs.declared.named.Named.{Named}
use Rattle.text_tree.specs.declared.policies.Policy.{Policy}
use Rattle.text_tree.specs.Forms.{Upper, either, mapped, nothing, token}
use Rattle.text_tree.specs.ExprGrammar.{G, ◌⨾◌, behind, named, parens, sign, upper_keyword}
use Rattle.text_tree.specs.Grammar.{add_field, fields_form, model_form, remove_field, right, update_field, update_model, weaken_field, weaken_model}

-- the first of two rights, and maybe the second; and the second alone
abbrev pub first_and_more : List ℕ → List ℕ → G (Option Policy × Option Policy)
first_and_more one two = mapped (λ v. (Some v.0, v.1)) (right one ⨾ either (mapped Some (behind (sign k.Comma) (right two))) (nothing None))

abbrev pub second_alone : List ℕ → G (Option Policy × Option Policy)
second_alone two = mapped (λ p. (None, Some p)) (right two)

-- a word with a name in parentheses, and the offset of the word
abbrev pub word_with_name : List ℕ → G (Named × ℕ)
word_with_name word = mapped (λ v. (named v.1, v.0.at)) (upper_keyword word ⨾ parens (token Upper))

-- what stands behind the name of a model that is given whole
abbrev pub model_body : G (Policy × (Policy × List FieldDef))
model_body = behind (sign k.BraceOpen) (right (codes "create") ⨾ behind (sign k.Comma) (right (codes "delete")) ⨾ fields_form)

-- what stands behind the name of a model that a command is about
abbrev pub of_model : G (Piece → Command)
of_model = either add_field (either remove_field (either update_field (either weaken_field (either update_model weaken_model))))

abbrev pub create_model : G Command
create_model = mapped (λ v. command.CreateModel v.1 v.0.at) (upper_keyword (codes "CreateModel") ⨾ parens model_form)
