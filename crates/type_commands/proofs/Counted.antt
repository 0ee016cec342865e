-- The fields of a model, and how many they are, in a schema as the code has it and in its plain data.
use Rattle.std.proofs.Common.{◌≡◌, ◌==◌, ℕ, [], length, map, refl, sym, ap, ◌∙◌}
use Rattle.std.specs.Prelude.{Option, Some, None}
use Rattle.std.specs.List.{find}
use Rattle.std.specs.Option.{option_map_or}
use Rattle.std.proofs.lemmas.List.{length-map}
use Rattle.type_schema.specs.declared.schemas.ModelInfo as code_model
use Rattle.type_schema.specs.declared.schemas.Schema as code_schema
use Rattle.type_schema.specs.Schema.{ModelInfo}
use Rattle.type_schema.specs.Commands.{fields_in}
use Rattle.type_schema.specs.SchemaViews.{field_info_of, model_info_of}
use Rattle.type_typing.specs.Names.{plain_of}
use Rattle.type_typing.proofs.Lookups.{find_or_seen}
use Rattle.type_commands.specs.Resolved.{field_count}

counted-seen : (found : Option code_model.ModelInfo) → option_map_or (λ (info : code_model.ModelInfo). length info.fields) found 0 ≡ option_map_or (λ (info : code_model.ModelInfo). length (model_info_of info).fields) found 0
counted-seen None = refl
counted-seen (Some info) = sym (length-map info.fields field_info_of)

pub fields_counted : (s : code_schema.Schema) (m : ℕ) (found : Option code_model.ModelInfo) → found ≡ find (λ (info : code_model.ModelInfo). info.number == m) s.models → option_map_or (λ (info : code_model.ModelInfo). length info.fields) found 0 ≡ field_count (plain_of s) m
unfolding field_count plain_of
fields_counted s m found e =
    counted-seen found
    ∙ ap (λ o. option_map_or (λ (info : code_model.ModelInfo). length (model_info_of info).fields) o 0) e
    ∙ sym (find_or_seen model_info_of (λ (info : ModelInfo). length info.fields) 0 (λ (info : ModelInfo). info.number == m) s.models)

pub fields_found : (s : code_schema.Schema) (m : ℕ) (found : Option code_model.ModelInfo) → found ≡ find (λ (info : code_model.ModelInfo). info.number == m) s.models
    → option_map_or (λ (info : code_model.ModelInfo). map field_info_of info.fields) found [] ≡ fields_in (plain_of s) m
unfolding plain_of
fields_found s m found e =
    ap (λ o. option_map_or (λ (info : code_model.ModelInfo). map field_info_of info.fields) o []) e
    ∙ sym (find_or_seen model_info_of (λ (info : ModelInfo). info.fields) [] (λ (info : ModelInfo). info.number == m) s.models)
