use Rattle.std.proofs.Common.{◌≡◌, ◌++◌, map, take}
use Rattle.data_records.specs.Views.{slot_data}
use Rattle.type_schema.specs.SchemaViews.{field_info_of, model_info_of, schema_of}
use Rattle.check_witness.specs.Built.{built_slot}
use Rattle.check_witness.proofs.source.Source.push_slots.Given as goal

abbrev pub invariant-loop-field : goal.invariant-loop-field
invariant-loop-field l =
    map slot_data l.slots.items
    ≡ map slot_data l.fn.slots.items
    ++ map (λ f. built_slot (schema_of l.self.schema.now) l.self.structure.now (model_info_of l.info) l.x (field_info_of f)) (take l.field-index l.fields)
