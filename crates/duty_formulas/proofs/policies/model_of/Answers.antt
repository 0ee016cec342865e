use Rattle.std.proofs.Common.{◌==◌, ◌∙◌, ap, map}
use Rattle.type_schema.specs.Schema as plain
use Rattle.type_schema.specs.SchemaViews.{model_info_of}
use Rattle.duty_formulas.proofs.LookUps.{found_seen}
use Rattle.duty_formulas.proofs.policies.model_of.Goals as goal

pub returns : goal.returns
returns c =
    found_seen (λ (i : plain.ModelInfo). i.number == c.args.m) model_info_of c.as_slice.result.now c.model_in.result c.model_in.ensures
    ∙ ap (λ xs. plain.model_in (map model_info_of xs) c.args.m) c.as_slice.ensures
