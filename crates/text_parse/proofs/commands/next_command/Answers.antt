use Rattle.std.proofs.Common.{◌≡◌, ◌∙◌, sym, ap, rules, Some}
use Rattle.std.proofs.lemmas.Result.{err_from_is_err_and}
use Rattle.text_tree.specs.Forms.{first, TooManyCommands}
use Rattle.text_tree.specs.Grammar.{most_levels, command_form}
use Rattle.text_tree.specs.Texts.{first_of}
use Rattle.text_grammar.specs.Reading.{Stuck}
use Rattle.text_syntax.specs.Reads.{cause_of, reading}
use Rattle.text_parse.specs.Items.{commands_from}
use Rattle.text_parse.proofs.Turns.{each_none, each_over, each_some, each_stuck}
use Rattle.text_parse.proofs.commands.next_command.Goals as goal

pub returns-then-not-sees_command : goal.returns-then-not-sees_command
unfolding commands_from
returns-then-not-sees_command c =
    each_none TooManyCommands (first first_of command_form) (reading most_levels command_form) c.args.left c.args.cursor.now (sym c.sees_command.ensures ∙ c.if-not-sees_command.true)

pub returns-then-left-eq0 : goal.returns-then-left-eq0
unfolding commands_from
returns-then-left-eq0 c = λ d e.
    let same : TooManyCommands ≡ d = cc in
    each_over TooManyCommands (first first_of command_form) (reading most_levels command_form) c.args.left c.args.cursor.now (sym c.sees_command.ensures ∙ c.if-not-sees_command.false) c.if-left-eq0.true
    ∙ ap (λ z. Stuck z c.args.cursor.now) same

pub returns-in_err-command : goal.returns-in_err-command
unfolding commands_from
returns-in_err-command c =
    let p = err_from_is_err_and c.from_residual.result c.from_residual.ensures.1 in
    rw p.1 (λ d e.
    let same : cause_of c.in_err-command.field-0.0 ≡ Some d = cc (p.2, e) in
    each_stuck TooManyCommands (first first_of command_form) (reading most_levels command_form) c.args.left c.args.cursor.now c.command.new.cursor d (sym c.sees_command.ensures ∙ c.if-not-sees_command.false) c.if-left-eq0.false
    (c.in_err-command.ensures d same))

pub returns : goal.returns
unfolding commands_from
returns c =
    each_some TooManyCommands (first first_of command_form) (reading most_levels command_form) c.args.left c.args.cursor.now c.command.new.cursor _ (sym c.sees_command.ensures ∙ c.if-not-sees_command.false) c.if-left-eq0.false
    (search rules)
