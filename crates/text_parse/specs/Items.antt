-- Items that stand again and again, where so many may still come.
use Rattle.std.specs.Prelude.{ℕ, List}
use Rattle.text_lexer.specs.declared.token.TokenKind.TheVariants as k
use Rattle.text_tree.specs.Forms.{Sign, TooManyStatics, TooManyModels, TooManyFields, TooManyCommands, first}
use Rattle.text_tree.specs.declared.named.Named.{Named}
use Rattle.text_tree.specs.declared.models.FieldDef.{FieldDef}
use Rattle.text_tree.specs.declared.models.ModelDef.{ModelDef}
use Rattle.text_tree.specs.declared.commands.Command.{Command}
use Rattle.text_tree.specs.ExprGrammar.{sign}
use Rattle.text_tree.specs.Grammar.{most_levels, static_form, model_form, field_form, command_form}
use Rattle.text_tree.specs.Texts.{first_of}
use Rattle.text_grammar.specs.Reading.{Reader, made, read_each, read_end}
use Rattle.text_syntax.specs.Reads.{reading}

unfoldable pub statics_from : ℕ → Reader (List Named)
statics_from left ls = read_each TooManyStatics left (first first_of static_form) (reading most_levels static_form) ls

unfoldable pub models_from : ℕ → Reader (List ModelDef)
models_from left ls = read_each TooManyModels left (first first_of model_form) (reading most_levels model_form) ls

unfoldable pub commands_from : ℕ → Reader (List Command)
commands_from left ls = read_each TooManyCommands left (first first_of command_form) (reading most_levels command_form) ls

-- with a comma before each, and the end of the model
unfoldable pub fields_from : ℕ → Reader (List FieldDef)
fields_from left ls =
    made (λ v. v.0) (read_end TooManyFields left (Sign k.Comma) (first first_of field_form) (reading most_levels field_form)
    (reading most_levels (sign k.BraceClose)) (reading most_levels (sign k.BraceClose)) ls)
