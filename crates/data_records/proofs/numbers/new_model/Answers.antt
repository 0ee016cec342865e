use Rattle.data_records.proofs.NewNumbers.{model-none, model-some}
use Rattle.data_records.proofs.numbers.new_model.Goals as goal

pub returns-in-Some : goal.returns-in-Some
returns-in-Some c = model-some c.args.models.now c.args.m c.in-Some.place c.in-Some.ensures

pub returns-in-None : goal.returns-in-None
returns-in-None c = model-none c.args.models.now c.args.m c.in-None.ensures
