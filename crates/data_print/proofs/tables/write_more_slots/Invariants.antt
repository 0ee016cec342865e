use Rattle.std.proofs.Common.{◌≡◌, ◌++◌, codes, take}
use Rattle.std.specs.List.{flat_map}
use Rattle.type_schema.specs.SchemaViews.{field_info_of}
use Rattle.data_records.specs.Views.{record_data}
use Rattle.data_print.specs.Texts.{slot_text}
use Rattle.data_print.proofs.tables.write_more_slots.Given as goal

abbrev pub invariant-loop-info : goal.invariant-loop-info
invariant-loop-info l =
    l.out ≡ l.fn.out ++ flat_map (λ f. codes ", " ++ slot_text (record_data l.row) (field_info_of f)) (take l.info-index l.fields)
