use Rattle.std.proofs.Common.{sym}
use Rattle.type_schema.specs.SchemaViews.{model_info_of}
use Rattle.data_meaning.specs.Database.{records_of}
use Rattle.data_records.specs.Removed.{reference_from}
use Rattle.data_records.proofs.Places.{none-given, none-names}
use Rattle.data_records.proofs.references.first_in.Goals as goal

pub returns-else-may_name : goal.returns-else-may_name
returns-else-may_name c =
    sym (none-given (reference_from c.args.m c.args.id (model_info_of c.args.info.now)) (records_of c.args.database.now c.args.info.now.number)
    (none-names c.args.m c.args.id c.args.info.now (sym (rw c.as_slice.ensures at c.if-may_name.ensures))))
