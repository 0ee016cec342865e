use Rattle.std.proofs.Common.{◌<◌, map}
use Rattle.std.specs.Prelude.{nat_lt}
use Rattle.data_records.specs.declared.record.Record as code_record
use Rattle.data_records.specs.Views.{record_data}
use Rattle.data_meaning.specs.Database.{Record}
use Rattle.data_back.proofs.Each.{by-test, is-below}
use Rattle.data_back.proofs.LookedAt.{all-seen-as}
use Rattle.data_back.proofs.standard.are_given.Goals as goal

pub returns : goal.returns
returns c =
    let rows = c.args.records.now in
    let test = by-test (λ (r : code_record.Record). nat_lt r.id c.args.next) (λ (r : code_record.Record). r.id < c.args.next) (λ r. is-below r.id c.args.next) rows in
    let seen = all-seen-as record_data (λ (r : Record). r.id < c.args.next) rows in
    rw c.are_below.ensures (λ e. seen.0 (test.0 e), λ all. test.1 (seen.1 all))
