use Rattle.std.proofs.Common.{◌≡◌, subst}
use Rattle.std.specs.Prelude.{IfOk}
use Rattle.data_meaning.specs.Values.{Id}
use Rattle.data_records.proofs.Holding.{equal-ids}
use Rattle.data_records.proofs.database.Database.ids_sought.Goals as goal

pub returns : goal.returns
returns c =
    subst (λ ids. IfOk c.ids_in.result (λ found. found.items ≡ ids))
    (equal-ids c.args.self.now c.args.m c.args.f (Id c.args.id) c.records.result.now c.records.ensures.all c.records.ensures.rising) c.ids_in.ensures
