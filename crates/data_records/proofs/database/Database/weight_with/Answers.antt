use Rattle.std.proofs.Common.{◌≤◌, subst}
use Rattle.data_meaning.specs.Values.{Value}
use Rattle.data_records.specs.Room.{weight_of, total_weight}
use Rattle.data_records.specs.Views.{value_data}
use Rattle.data_records.proofs.Changes.{weight-within}
use Rattle.data_records.proofs.Places.{value-found}
use Rattle.data_records.proofs.database.Database.weight_with.Goals as goal

pub reweighed-requires : goal.reweighed-requires
reweighed-requires c =
    let found = value-found c.args.self.now c.args.m c.args.id c.args.f (value_data c.in-Some.old.now) c.in-Some.ensures in
    subst (λ (v : Value). weight_of v ≤ total_weight c.args.self.now) found.value
    (weight-within c.args.self.now c.args.m c.args.id c.args.f found.slot found.at found.slot_is)
