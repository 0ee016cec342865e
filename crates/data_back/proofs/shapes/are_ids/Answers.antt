use Rattle.std.proofs.Common.{◌&&◌}
use Rattle.std.specs.Prelude.{nat_le}
use Rattle.data_meaning.specs.Values.{IsId, last_id}
use Rattle.data_back.proofs.Each.{by-test, is-id}
use Rattle.data_back.proofs.shapes.are_ids.Goals as goal

pub returns : goal.returns
returns c = rw c.are_in_range.ensures (by-test (λ id. nat_le 1 id && nat_le id last_id) IsId is-id c.args.ids.now)
