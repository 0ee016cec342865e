use Rattle.std.proofs.Common.{◌++◌, ◌+◌, suc, map, ap, sym, ◌∙◌, arith}
use Rattle.data_records.specs.Views.{slot_data}
use Rattle.type_schema.specs.SchemaViews.{field_info_of, model_info_of, schema_of}
use Rattle.check_witness.specs.Built.{built_slot}
use Rattle.check_witness.proofs.Kept.{map-twice, record-same}
use Rattle.check_witness.proofs.source.Source.record.Goals as goal

pub returns : goal.returns
returns c =
    let slot = built_slot (schema_of c.args.self.now.schema.now) c.args.self.now.structure.now (model_info_of c.args.info.now) c.args.x in
    record-same (c.from.result + 1) (suc c.args.x) (map slot_data c.from_vec.result) (map slot (map field_info_of c.args.info.now.fields)) (omega (arith, c.from.ensures))
    (ap (map slot_data) c.from_vec.ensures ∙ c.in_ok-push_slots.ensures
    ∙ ap (λ ts. map slot_data ts ++ map (λ f. slot (field_info_of f)) c.as_slice.result.now) c.new-slots.ensures.items
    ∙ ap (map (λ f. slot (field_info_of f))) c.as_slice.ensures ∙ sym (map-twice slot field_info_of c.args.info.now.fields))
