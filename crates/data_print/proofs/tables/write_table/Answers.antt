use Rattle.std.proofs.Common.{◌≡◌, append_assoc, sym, ◌∙◌, ap}
use Rattle.std.specs.List.{flat_map}
use Rattle.type_schema.specs.SchemaViews.{model_info_of}
use Rattle.data_records.specs.Views.{record_data}
use Rattle.data_meaning.specs.Database.{records_of}
use Rattle.data_print.specs.Texts.{record_text}
use Rattle.data_print.proofs.Mapped.{flat_map_of_map}
use Rattle.data_print.proofs.tables.write_table.Goals as goal

pub returns : goal.returns
returns c =
    let lines : flat_map (record_text (model_info_of c.args.info.now)) (records_of c.args.database.now c.args.info.now.number) ≡ flat_map (λ r. record_text (model_info_of c.args.info.now) (record_data r)) c.records.result.now =
    ap (flat_map (record_text (model_info_of c.args.info.now))) (sym c.records.ensures.all) ∙ flat_map_of_map (record_text (model_info_of c.args.info.now)) record_data c.records.result.now in
    rw lines
    (simp (c.in_ok-put-4.ensures, c.in_ok-write_records.ensures, c.in_ok-put-3.ensures, c.in_ok-write_id.ensures, c.next.ensures, c.in_ok-put-2.ensures, c.in_ok-put.ensures, append_assoc))
