use Rattle.std.proofs.Common.{codes, append_assoc}
use Rattle.type_schema.specs.SchemaViews.{field_info_of}
use Rattle.data_records.specs.Views.{record_data}
use Rattle.data_print.specs.Texts.{slot_text}
use Rattle.data_print.proofs.Mapped.{join_by_of_map}
use Rattle.data_print.proofs.tables.write_record.Goals as goal

pub returns : goal.returns
returns c =
    rw (join_by_of_map (slot_text (record_data c.args.row.now)) (codes ", ") field_info_of c.args.info.now.fields)
    (simp (c.in_ok-put-3.ensures, c.in_ok-write_slots.ensures, c.as_slice.ensures, c.in_ok-put-2.ensures, c.in_ok-write_id.ensures, c.in_ok-put.ensures, append_assoc))
