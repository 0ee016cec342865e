use Rattle.std.proofs.Common.{IsTrue}
use Rattle.data_meaning.specs.Database.{has_record}
use Rattle.data_back.proofs.Each.{by-test}
use Rattle.data_back.proofs.shapes.are_there.Goals as goal

pub returns : goal.returns
returns c =
    rw c.has_all.ensures (by-test (λ id. has_record c.args.database.now c.args.m id) (λ id. IsTrue (has_record c.args.database.now c.args.m id)) (λ id. (λ e. e, λ e. e)) c.args.ids.now)
