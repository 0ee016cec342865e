use Rattle.std.proofs.Common.{◌++◌, ◌+◌, suc, map, ap, ◌∙◌, arith}
use Rattle.std.specs.List.{range_with_len}
use Rattle.data_records.specs.Views.{record_data}
use Rattle.type_schema.specs.SchemaViews.{model_info_of, schema_of}
use Rattle.form_formula.specs.Truth.{size_of}
use Rattle.duty_meaning.specs.Structures.{sort_of}
use Rattle.check_witness.specs.Built.{built_record}
use Rattle.check_witness.proofs.Kept.{table-same}
use Rattle.check_witness.proofs.source.Source.table.Goals as goal

pub returns : goal.returns
returns c =
    let s = schema_of c.args.self.now.schema.now in
    let st = c.args.self.now.structure.now in
    let row = built_record s st (model_info_of c.args.info.now) in
    let size = size_of st (sort_of s c.args.info.now.number) in
    table-same c.args.info.now.number (c.from.result + 1) (suc size) (map record_data c.push_records.new.records.items) (map row (range_with_len 0 size))
    (omega (arith, c.from.ensures, c.size_of-size.ensures))
    (c.in_ok-push_records.ensures ∙ ap (λ ts. map record_data ts ++ map row (range_with_len 0 c.size_of-size.result)) c.new-records.ensures.items
    ∙ ap (λ k. map row (range_with_len 0 k)) c.size_of-size.ensures)
