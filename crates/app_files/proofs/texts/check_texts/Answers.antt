use Rattle.std.proofs.Common.{rules, ◌≡◌}
use Rattle.std.specs.Prelude.{Err}
use Rattle.type_typing.specs.Names.{plain_of}
use Rattle.app_files.specs.Answer.{Checks, SpecOf, ScriptOf}
use Rattle.app_files.specs.Words.{names_of}
use Rattle.app_files.proofs.Headline.{judged-so}
use Rattle.app_files.proofs.InTurn.{checked-quiet, texts-quiet, then-cut, then-join}
use Rattle.app_files.proofs.texts.check_texts.Goals as goal

pub returns-in_err-schema-clause-checked : goal.returns-in_err-schema-clause-checked
returns-in_err-schema-clause-checked c =
    let same : c.from_residual.result ≡ Err c.in_err-schema.field-0.0 = search rules in
    then-cut (SpecOf c.args.spec.name.now c.args.spec.bytes.now) (λ s. ScriptOf c.args.script.name.now s c.args.script.bytes.now) Checks _ c.in_err-schema.field-0.0 c.in_err-schema.ensures.read same

pub returns-in_err-schema-clause-headline : goal.returns-in_err-schema-clause-headline
returns-in_err-schema-clause-headline c = judged-so _ _ (returns-in_err-schema-clause-checked c)

pub returns-in_err-schema-clause-no_fault : goal.returns-in_err-schema-clause-no_fault
returns-in_err-schema-clause-no_fault c =
    checked-quiet _ _ (texts-quiet (names_of c.args.spec.name.now c.args.script.name.now) c.args.spec.bytes.now c.args.script.bytes.now) (returns-in_err-schema-clause-checked c)

pub returns-clause-checked : goal.returns-clause-checked
returns-clause-checked c =
    then-join (SpecOf c.args.spec.name.now c.args.spec.bytes.now) (λ s. ScriptOf c.args.script.name.now s c.args.script.bytes.now) Checks _ (plain_of c.in_ok-schema.schema) c.in_ok-schema.ensures.read c.check_script_text.ensures.checked

pub returns-clause-headline : goal.returns-clause-headline
returns-clause-headline c = judged-so _ _ (returns-clause-checked c)
