use Rattle.std.proofs.Common.{◌≡◌, ◌==◌, [], sym, ◌∙◌, subst}
use Rattle.std.specs.Prelude.{Some, None}
use Rattle.std.specs.List.{find}
use Rattle.type_schema.specs.Schema.{ModelInfo}
use Rattle.type_schema.specs.SchemaViews.{model_info_of}
use Rattle.check_report.proofs.Searches.{looked-up}
use Rattle.app_files.proofs.users.model_name.Goals as goal

pub returns-in-Some : goal.returns-in-Some
returns-in-Some c =
    c.bytes.ensures.bytes
    ∙ sym (looked-up (λ (i : ModelInfo). i.number == c.args.m) model_info_of (λ (i : ModelInfo). i.name) [] c.args.schema.now.models (Some c.in-Some.info.now)
    (subst (λ xs. Some c.in-Some.info.now ≡ find (λ i. i.number == c.args.m) xs) c.as_slice.ensures c.in-Some.ensures))

pub returns-in-None : goal.returns-in-None
returns-in-None c =
    sym (looked-up (λ (i : ModelInfo). i.number == c.args.m) model_info_of (λ (i : ModelInfo). i.name) [] c.args.schema.now.models None
    (subst (λ xs. None ≡ find (λ i. i.number == c.args.m) xs) c.as_slice.ensures c.in-None.ensures))
