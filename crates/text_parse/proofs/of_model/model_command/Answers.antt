use Rattle.std.proofs.Common.{◌≡◌, Some}
use Rattle.std.proofs.lemmas.Result.{err_from_is_err_and}
use Rattle.text_tree.specs.Grammar.{model_command}
use Rattle.text_syntax.specs.Reads.{cause_of}
use Rattle.text_parse.specs.Parts.{of_model}
use Rattle.text_parse.proofs.Steps.{name_read, no_name, no_colons, reads_same}
use Rattle.text_parse.proofs.of_model.model_command.Goals as goal

pub returns-in_err-model : goal.returns-in_err-model
unfolding model_command
returns-in_err-model c =
    let p = err_from_is_err_and c.from_residual.result c.from_residual.ensures.1 in
    rw p.1 (λ d e.
    let same : cause_of c.in_err-model.field-0.0 ≡ Some d = cc (p.2, e) in
    no_name of_model c.args.cursor.now c.upper.new.self d (c.in_err-model.ensures d same))

pub returns-in_err-sign : goal.returns-in_err-sign
unfolding model_command
returns-in_err-sign c =
    let p = err_from_is_err_and c.from_residual-in_err-sign.result c.from_residual-in_err-sign.ensures.1 in
    rw p.1 (λ d e.
    let same : cause_of c.in_err-sign.field-0.0 ≡ Some d = cc (p.2, e) in
    no_colons of_model c.args.cursor.now c.upper.new.self c.sign.new.self _ d c.in_ok-model.ensures (c.in_err-sign.ensures d same))

pub returns : goal.returns
unfolding model_command
returns c =
    reads_same _ _ c.of_model.result c.of_model.new.cursor
    (name_read of_model c.args.cursor.now c.upper.new.self c.sign.new.self _ _ c.in_ok-model.ensures c.in_ok-sign.ensures) c.of_model.ensures
