use Rattle.std.proofs.Common.{◌≡◌, ◌++◌, map}
use Rattle.std.specs.List.{range_with_len}
use Rattle.data_records.specs.Views.{record_data}
use Rattle.type_schema.specs.SchemaViews.{model_info_of, schema_of}
use Rattle.check_witness.specs.Built.{built_record}
use Rattle.check_witness.proofs.source.Source.push_records.Given as goal

abbrev pub invariant-loop-x : goal.invariant-loop-x
invariant-loop-x l =
    map record_data l.records.items
    ≡ map record_data l.fn.records.items
    ++ map (built_record (schema_of l.self.schema.now) l.self.structure.now (model_info_of l.info)) (range_with_len 0 l.x)
