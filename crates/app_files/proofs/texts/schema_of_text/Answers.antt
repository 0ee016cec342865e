use Rattle.std.proofs.Common.{rules, ◌≡◌}
use Rattle.std.specs.Prelude.{Err}
use Rattle.type_typing.specs.Names.{plain_of}
use Rattle.app_files.specs.Answer.{SpecOf}
use Rattle.app_files.proofs.InTurn.{comes-stopped, comes-behind, comes-quiet, spec-quiet}
use Rattle.app_files.proofs.texts.schema_of_text.Goals as goal

pub returns-in_err-spec-clause-read : goal.returns-in_err-spec-clause-read
returns-in_err-spec-clause-read c =
    let same : c.from_residual.result ≡ Err c.in_err-spec.field-0.0 = search rules in
    comes-stopped _ _ plain_of _ c.in_err-spec.field-0.0 c.in_err-spec.ensures same

pub returns-in_err-spec-clause-no_fault : goal.returns-in_err-spec-clause-no_fault
returns-in_err-spec-clause-no_fault c =
    comes-quiet (SpecOf c.args.text.name.now c.args.text.bytes.now) plain_of c.from_residual.result (spec-quiet c.args.text.name.now c.args.text.bytes.now) (returns-in_err-spec-clause-read c)

pub returns-clause-read : goal.returns-clause-read
returns-clause-read c = comes-behind _ _ plain_of _ c.in_ok-spec.spec c.in_ok-spec.ensures c.typed_spec.ensures.types

pub returns-clause-no_fault : goal.returns-clause-no_fault
returns-clause-no_fault c =
    comes-quiet (SpecOf c.args.text.name.now c.args.text.bytes.now) plain_of c.typed_spec.result (spec-quiet c.args.text.name.now c.args.text.bytes.now) (returns-clause-read c)
