use Rattle.std.proofs.Common.{◌-◌}
use Rattle.data_records.specs.Room.{record_weight, total_weight}
use Rattle.data_records.proofs.Places.{none-erased, row-some}
use Rattle.data_records.proofs.database.Database.erase.Goals as goal

pub take-requires-clause-there : goal.take-requires-clause-there
take-requires-clause-there c = row-some c.args.self.now c.args.m c.args.id (λ r. total_weight c.args.self.now - record_weight r) c.in-Some.weight c.in-Some.ensures

pub returns-in-None : goal.returns-in-None
returns-in-None c = none-erased c.args.m c.args.id (λ r. total_weight c.args.self.now - record_weight r) c.args.self.now c.in-None.ensures
