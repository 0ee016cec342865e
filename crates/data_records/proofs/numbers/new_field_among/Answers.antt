use Rattle.data_records.proofs.NewNumbers.{field-none, field-some}
use Rattle.data_records.proofs.numbers.new_field_among.Goals as goal

pub returns-in-Some : goal.returns-in-Some
returns-in-Some c = field-some c.args.before c.args.fields.now c.args.f c.in-Some.place c.in-Some.ensures

pub returns-in-None : goal.returns-in-None
returns-in-None c = field-none c.args.before c.args.fields.now c.args.f c.in-None.ensures
