use Rattle.std.proofs.Common.{◌∙◌, sym}
use Rattle.std.specs.Prelude.{codes}
use Rattle.text_tree.specs.declared.commands.Command.{Command}
use Rattle.text_tree.specs.declared.commands.Command.TheVariants as command
use Rattle.text_tree.specs.Forms.{either}
use Rattle.text_tree.specs.ExprGrammar.{G}
use Rattle.text_tree.specs.Grammar.{command_form, model_command, named_command}
use Rattle.text_parse.specs.Parts.{create_model}
use Rattle.text_parse.proofs.Steps.{either_first, either_second, reads_same}
use Rattle.text_parse.proofs.commands.command.Goals as goal

abbrev delete : G Command
delete = named_command (codes "DeleteModel") command.DeleteModel

abbrev add : G Command
add = named_command (codes "AddStatic") command.AddStatic

abbrev remove : G Command
remove = named_command (codes "RemoveStatic") command.RemoveStatic

abbrev principal : G Command
principal = named_command (codes "AddPrincipal") command.AddPrincipal

-- the choices that are left
abbrev fifth : G Command
fifth = either principal model_command

abbrev fourth : G Command
fourth = either remove fifth

abbrev third : G Command
third = either add fourth

abbrev second : G Command
second = either delete third

pub returns-then-sees_word : goal.returns-then-sees_word
unfolding command_form
returns-then-sees_word c =
    let ls = c.args.cursor.now in
    reads_same _ _ c.create.result c.create.new.cursor (either_first create_model second ls (sym c.sees_word.ensures ∙ c.if-sees_word.true)) c.create.ensures

pub returns-then-sees_word-2 : goal.returns-then-sees_word-2
unfolding command_form
returns-then-sees_word-2 c =
    let ls = c.args.cursor.now in
    reads_same _ _ c.delete_model.result c.delete_model.new.cursor (either_second create_model second ls (sym c.sees_word.ensures ∙ c.if-sees_word.false)
    ∙ either_first delete third ls (sym c.sees_word-2.ensures ∙ c.if-sees_word-2.true)) c.delete_model.ensures

pub returns-then-sees_word-3 : goal.returns-then-sees_word-3
unfolding command_form
returns-then-sees_word-3 c =
    let ls = c.args.cursor.now in
    reads_same _ _ c.add_static.result c.add_static.new.cursor (either_second create_model second ls (sym c.sees_word.ensures ∙ c.if-sees_word.false)
    ∙ either_second delete third ls (sym c.sees_word-2.ensures ∙ c.if-sees_word-2.false)
    ∙ either_first add fourth ls (sym c.sees_word-3.ensures ∙ c.if-sees_word-3.true)) c.add_static.ensures

pub returns-then-sees_word-4 : goal.returns-then-sees_word-4
unfolding command_form
returns-then-sees_word-4 c =
    let ls = c.args.cursor.now in
    reads_same _ _ c.remove_static.result c.remove_static.new.cursor (either_second create_model second ls (sym c.sees_word.ensures ∙ c.if-sees_word.false)
    ∙ either_second delete third ls (sym c.sees_word-2.ensures ∙ c.if-sees_word-2.false)
    ∙ either_second add fourth ls (sym c.sees_word-3.ensures ∙ c.if-sees_word-3.false)
    ∙ either_first remove fifth ls (sym c.sees_word-4.ensures ∙ c.if-sees_word-4.true)) c.remove_static.ensures

pub returns-then-sees_word-5 : goal.returns-then-sees_word-5
unfolding command_form
returns-then-sees_word-5 c =
    let ls = c.args.cursor.now in
    reads_same _ _ c.add_principal.result c.add_principal.new.cursor (either_second create_model second ls (sym c.sees_word.ensures ∙ c.if-sees_word.false)
    ∙ either_second delete third ls (sym c.sees_word-2.ensures ∙ c.if-sees_word-2.false)
    ∙ either_second add fourth ls (sym c.sees_word-3.ensures ∙ c.if-sees_word-3.false)
    ∙ either_second remove fifth ls (sym c.sees_word-4.ensures ∙ c.if-sees_word-4.false)
    ∙ either_first principal model_command ls (sym c.sees_word-5.ensures ∙ c.if-sees_word-5.true)) c.add_principal.ensures

pub returns : goal.returns
unfolding command_form
returns c =
    let ls = c.args.cursor.now in
    reads_same _ _ c.model_command.result c.model_command.new.cursor (either_second create_model second ls (sym c.sees_word.ensures ∙ c.if-sees_word.false)
    ∙ either_second delete third ls (sym c.sees_word-2.ensures ∙ c.if-sees_word-2.false)
    ∙ either_second add fourth ls (sym c.sees_word-3.ensures ∙ c.if-sees_word-3.false)
    ∙ either_second remove fifth ls (sym c.sees_word-4.ensures ∙ c.if-sees_word-4.false)
    ∙ either_second principal model_command ls (sym c.sees_word-5.ensures ∙ c.if-sees_word-5.false)) c.model_command.ensures
