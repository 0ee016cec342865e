use Rattle.std.proofs.Common.{◌-◌}
use Rattle.data_records.specs.Room.{record_weight, total_weight}
use Rattle.data_records.proofs.Undone.{none-newest, undone}
use Rattle.data_records.proofs.database.Database.take_back.Goals as goal

pub returns-in-Some-clause-undone : goal.returns-in-Some-clause-undone
returns-in-Some-clause-undone c = undone c.args.m c.args.self.now c.take_newest.new.self c.take_newest.ensures

pub returns-in-None-clause-newest : goal.returns-in-None-clause-newest
returns-in-None-clause-newest c = none-newest c.args.m (λ r. total_weight c.args.self.now - record_weight r) c.args.self.now c.in-None.ensures

pub returns-in-None-clause-undone : goal.returns-in-None-clause-undone
returns-in-None-clause-undone c =
    undone c.args.m c.args.self.now c.args.self.now (none-newest c.args.m (λ r. total_weight c.args.self.now - record_weight r) c.args.self.now c.in-None.ensures)
