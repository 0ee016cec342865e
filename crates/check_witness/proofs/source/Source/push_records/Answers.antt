use Rattle.std.proofs.Common.{◌++◌, ◌∷◌, [], map, ap, sym, ◌∙◌, append_assoc}
use Rattle.std.specs.List.{range_with_len}
use Rattle.data_records.specs.Views.{record_data}
use Rattle.type_schema.specs.SchemaViews.{model_info_of, schema_of}
use Rattle.check_witness.specs.Built.{built_record}
use Rattle.check_witness.proofs.Related.{map-range-next}
use Rattle.check_witness.proofs.source.Source.push_records.Goals as goal

pub loop-x-preserved : goal.loop-x-preserved
loop-x-preserved c =
    let row = built_record (schema_of c.args.self.now.schema.now) c.args.self.now.structure.now (model_info_of c.args.info.now) in
    c.in_ok-push_record.ensures
    ∙ ap (λ z. z ++ row c.loop-x.x ∷ []) c.loop-x.invariant
    ∙ append_assoc (map record_data c.args.records.now.items) (map row (range_with_len 0 c.loop-x.x)) (row c.loop-x.x ∷ [])
    ∙ ap (λ z. map record_data c.args.records.now.items ++ z) (sym (map-range-next row c.loop-x.x))
