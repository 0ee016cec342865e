use Rattle.std.proofs.Common.{◌≡◌, ◌∙◌, ap, sym}
use Rattle.std.specs.Prelude.{Some, slice_get}
use Rattle.std.proofs.lemmas.Option.{slice_get-get_or}
use Rattle.data_records.proofs.Searches.{found_by}
use Rattle.data_records.proofs.table.record_at.Goals as goal

pub returns-in-Some : goal.returns-in-Some
returns-in-Some c =
    let records = c.args.records.now in
    let place = c.in_ok-checked_sub.field-0 in
    let it = c.in-Some.record.now in
    let there = c.in-Some.ensures.lookup in
    let got : slice_get records place ≡ Some it = slice_get-get_or records place it there.3.0 ∙ ap Some (sym there.1) in
    found_by (λ r. r.id) c.args.id records place it c.requires got c.if-record-id.true
