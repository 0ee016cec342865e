use Rattle.std.proofs.Common.{rules, ◌≡◌}
use Rattle.std.specs.Prelude.{Err}
use Rattle.type_schema.specs.SchemaViews.{script_of}
use Rattle.type_typing.specs.Names.{plain_of}
use Rattle.app_files.specs.Answer.{ScriptOf}
use Rattle.app_files.proofs.InTurn.{comes-stopped, comes-behind, comes-quiet, script-quiet}
use Rattle.app_files.proofs.texts.script_of_text.Goals as goal

pub typed_script-requires-clause-spelled : goal.typed_script-requires-clause-spelled
typed_script-requires-clause-spelled c = (c.args.text.bytes.now, c.in_ok-script.ensures)

pub returns-in_err-script-clause-read : goal.returns-in_err-script-clause-read
returns-in_err-script-clause-read c =
    let same : c.from_residual.result ≡ Err c.in_err-script.field-0.0 = search rules in
    comes-stopped _ _ script_of _ c.in_err-script.field-0.0 c.in_err-script.ensures same

pub returns-clause-read : goal.returns-clause-read
returns-clause-read c = comes-behind _ _ script_of _ c.in_ok-script.script c.in_ok-script.ensures c.typed_script.ensures.types

pub returns-in_err-script-clause-no_fault : goal.returns-in_err-script-clause-no_fault
returns-in_err-script-clause-no_fault c =
    comes-quiet (ScriptOf c.args.text.name.now (plain_of c.args.schema.now) c.args.text.bytes.now) script_of c.from_residual.result
    (script-quiet c.args.text.name.now (plain_of c.args.schema.now) c.args.text.bytes.now) (returns-in_err-script-clause-read c)

pub returns-clause-no_fault : goal.returns-clause-no_fault
returns-clause-no_fault c =
    comes-quiet (ScriptOf c.args.text.name.now (plain_of c.args.schema.now) c.args.text.bytes.now) script_of c.typed_script.result
    (script-quiet c.args.text.name.now (plain_of c.args.schema.now) c.args.text.bytes.now) (returns-clause-read c)
