use Rattle.std.specs.Option.{option_copied}
use Rattle.data_meaning.specs.Database.{records_of}
use Rattle.data_records.proofs.Tables.{any-found, is-some-seen}
use Rattle.data_records.specs.Views.{record_data}
use Rattle.data_records.proofs.database.Database.has.Goals as goal

pub returns : goal.returns
returns c = rw (any-found c.args.id (records_of c.args.self.now c.args.m), ← c.get.ensures, is-some-seen record_data (option_copied c.get.result), is-some-seen (λ r. r.now) c.get.result) c.is_some.ensures
