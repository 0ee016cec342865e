use Rattle.std.proofs.Common.{sym}
use Rattle.data_records.specs.Views.{record_data}
use Rattle.data_meaning.specs.Database.{Record}
use Rattle.data_back.proofs.Each.{map-at}
use Rattle.data_back.proofs.standard.id_at.Goals as goal

pub returns : goal.returns
returns c = sym (map-at (λ (r : Record). r.id) record_data c.args.records.now c.args.place c.index-records-place.result c.requires)
