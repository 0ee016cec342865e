use Rattle.std.proofs.Common.{rules, ◌≡◌}
use Rattle.std.specs.Prelude.{Err}
use Rattle.type_schema.specs.SchemaViews.{script_of}
use Rattle.type_typing.specs.Names.{plain_of}
use Rattle.app_files.specs.Stages.{Stops, Goes}
use Rattle.app_files.proofs.Headline.{judged-so}
use Rattle.app_files.proofs.InTurn.{checked-quiet, script-quiet}
use Rattle.app_files.proofs.texts.check_script_text.Goals as goal

pub returns-in_err-script-clause-checked : goal.returns-in_err-script-clause-checked
returns-in_err-script-clause-checked c =
    let same : c.from_residual.result ≡ Err c.in_err-script.field-0.0 = search rules in
    Stops c.in_err-script.field-0.0 c.in_err-script.ensures.read same

pub returns-in_err-script-clause-headline : goal.returns-in_err-script-clause-headline
returns-in_err-script-clause-headline c = judged-so _ _ (returns-in_err-script-clause-checked c)

pub returns-in_err-script-clause-no_fault : goal.returns-in_err-script-clause-no_fault
returns-in_err-script-clause-no_fault c =
    checked-quiet _ _ (script-quiet c.args.text.name.now (plain_of c.args.schema.now) c.args.text.bytes.now) (returns-in_err-script-clause-checked c)

pub returns-clause-checked : goal.returns-clause-checked
returns-clause-checked c = Goes (script_of c.in_ok-script.script) c.in_ok-script.ensures.read c.checked.ensures.checked

pub returns-clause-headline : goal.returns-clause-headline
returns-clause-headline c = judged-so _ _ (returns-clause-checked c)
