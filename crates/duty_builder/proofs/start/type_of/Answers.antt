use Rattle.std.proofs.Common.{◌∙◌, ap, sym}
use Rattle.std.specs.Prelude.{find, ◌==◌}
use Rattle.type_schema.specs.declared.schemas.ModelInfo as code_model
use Rattle.duty_builder.proofs.Types.{type_without, type_within}
use Rattle.duty_builder.proofs.start.type_of.Goals as goal

pub returns-in-Some : goal.returns-in-Some
returns-in-Some c =
    c.type_in.ensures
    ∙ sym (type_within c.args.schema.now c.args.m c.args.f c.in-Some.model.now
    (c.in-Some.ensures ∙ ap (find (λ (x : code_model.ModelInfo). x.number == c.args.m)) c.as_slice.ensures))

pub returns-in-None : goal.returns-in-None
returns-in-None c =
    sym (type_without c.args.schema.now c.args.m c.args.f (c.in-None.ensures ∙ ap (find (λ (x : code_model.ModelInfo). x.number == c.args.m)) c.as_slice.ensures))
