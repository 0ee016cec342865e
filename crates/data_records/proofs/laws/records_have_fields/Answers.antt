use Rattle.data_records.proofs.FieldSet.{fields-there}
use Rattle.data_records.proofs.laws.records_have_fields.Goals as goal

pub returns : goal.returns
returns c = fields-there
