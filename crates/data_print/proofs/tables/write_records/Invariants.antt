use Rattle.std.proofs.Common.{◌≡◌, ◌++◌, take}
use Rattle.std.specs.List.{flat_map}
use Rattle.type_schema.specs.SchemaViews.{model_info_of}
use Rattle.data_records.specs.Views.{record_data}
use Rattle.data_print.specs.Texts.{record_text}
use Rattle.data_print.proofs.tables.write_records.Given as goal

abbrev pub invariant-loop-row : goal.invariant-loop-row
invariant-loop-row l =
    l.out ≡ l.fn.out ++ flat_map (λ r. record_text (model_info_of l.info) (record_data r)) (take l.row-index l.records)
