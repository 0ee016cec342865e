use Rattle.std.proofs.Common.{◌∙◌, ap, sym}
use Rattle.text_ast.specs.Pieces.{Piece}
use Rattle.text_tree.specs.declared.commands.Command.{Command}
use Rattle.text_tree.specs.Forms.{either}
use Rattle.text_tree.specs.ExprGrammar.{G}
use Rattle.text_tree.specs.Grammar.{add_field, remove_field, update_field, update_model, weaken_field, weaken_model}
use Rattle.text_grammar.specs.Reading.{made}
use Rattle.text_syntax.specs.Parts.{applied}
use Rattle.text_parse.proofs.Steps.{either_first, either_second, reads_same}
use Rattle.text_parse.proofs.of_model.of_model.Goals as goal

-- the choices that are left
abbrev fifth : G (Piece → Command)
fifth = either update_model weaken_model

abbrev fourth : G (Piece → Command)
fourth = either weaken_field fifth

abbrev third : G (Piece → Command)
third = either update_field fourth

abbrev second : G (Piece → Command)
second = either remove_field third

pub returns-then-sees_word : goal.returns-then-sees_word
unfolding add_field remove_field update_field weaken_field update_model
returns-then-sees_word c =
    let ls = c.args.cursor.now in
    reads_same _ _ c.add_field.result c.add_field.new.cursor (ap (made (applied c.args.model.now)) (either_first add_field second ls (sym c.sees_word.ensures ∙ c.if-sees_word.true))) c.add_field.ensures

pub returns-then-sees_word-2 : goal.returns-then-sees_word-2
unfolding add_field remove_field update_field weaken_field update_model
returns-then-sees_word-2 c =
    let ls = c.args.cursor.now in
    reads_same _ _ c.remove_field.result c.remove_field.new.cursor (ap (made (applied c.args.model.now)) (either_second add_field second ls (sym c.sees_word.ensures ∙ c.if-sees_word.false)
    ∙ either_first remove_field third ls (sym c.sees_word-2.ensures ∙ c.if-sees_word-2.true))) c.remove_field.ensures

pub returns-then-sees_word-3 : goal.returns-then-sees_word-3
unfolding add_field remove_field update_field weaken_field update_model
returns-then-sees_word-3 c =
    let ls = c.args.cursor.now in
    reads_same _ _ c.update_field.result c.update_field.new.cursor (ap (made (applied c.args.model.now)) (either_second add_field second ls (sym c.sees_word.ensures ∙ c.if-sees_word.false)
    ∙ either_second remove_field third ls (sym c.sees_word-2.ensures ∙ c.if-sees_word-2.false)
    ∙ either_first update_field fourth ls (sym c.sees_word-3.ensures ∙ c.if-sees_word-3.true))) c.update_field.ensures

pub returns-then-sees_word-4 : goal.returns-then-sees_word-4
unfolding add_field remove_field update_field weaken_field update_model
returns-then-sees_word-4 c =
    let ls = c.args.cursor.now in
    reads_same _ _ c.weaken_field.result c.weaken_field.new.cursor (ap (made (applied c.args.model.now)) (either_second add_field second ls (sym c.sees_word.ensures ∙ c.if-sees_word.false)
    ∙ either_second remove_field third ls (sym c.sees_word-2.ensures ∙ c.if-sees_word-2.false)
    ∙ either_second update_field fourth ls (sym c.sees_word-3.ensures ∙ c.if-sees_word-3.false)
    ∙ either_first weaken_field fifth ls (sym c.sees_word-4.ensures ∙ c.if-sees_word-4.true))) c.weaken_field.ensures

pub returns-then-sees_word-5 : goal.returns-then-sees_word-5
unfolding add_field remove_field update_field weaken_field update_model
returns-then-sees_word-5 c =
    let ls = c.args.cursor.now in
    reads_same _ _ c.update_model.result c.update_model.new.cursor (ap (made (applied c.args.model.now)) (either_second add_field second ls (sym c.sees_word.ensures ∙ c.if-sees_word.false)
    ∙ either_second remove_field third ls (sym c.sees_word-2.ensures ∙ c.if-sees_word-2.false)
    ∙ either_second update_field fourth ls (sym c.sees_word-3.ensures ∙ c.if-sees_word-3.false)
    ∙ either_second weaken_field fifth ls (sym c.sees_word-4.ensures ∙ c.if-sees_word-4.false)
    ∙ either_first update_model weaken_model ls (sym c.sees_word-5.ensures ∙ c.if-sees_word-5.true))) c.update_model.ensures

pub returns : goal.returns
unfolding add_field remove_field update_field weaken_field update_model
returns c =
    let ls = c.args.cursor.now in
    reads_same _ _ c.weaken_model.result c.weaken_model.new.cursor (ap (made (applied c.args.model.now)) (either_second add_field second ls (sym c.sees_word.ensures ∙ c.if-sees_word.false)
    ∙ either_second remove_field third ls (sym c.sees_word-2.ensures ∙ c.if-sees_word-2.false)
    ∙ either_second update_field fourth ls (sym c.sees_word-3.ensures ∙ c.if-sees_word-3.false)
    ∙ either_second weaken_field fifth ls (sym c.sees_word-4.ensures ∙ c.if-sees_word-4.false)
    ∙ either_second update_model weaken_model ls (sym c.sees_word-5.ensures ∙ c.if-sees_word-5.false))) c.weaken_model.ensures
