use Rattle.std.proofs.Common.{◌==◌, ap, sym, ◌∙◌}
use Rattle.data_meaning.specs.Database as plain
use Rattle.data_records.specs.Changed.{with_value}
use Rattle.data_records.specs.Views.{record_data, value_data}
use Rattle.data_records.proofs.Firsts.{put-at, none-put}
use Rattle.data_records.proofs.table.Table.put.Goals as goal

pub returns-in-Some : goal.returns-in-Some
returns-in-Some c =
    let rs = c.args.self.now.records.items in
    let slot = c.args.slot in
    let r = c.index_mut-record.result.now in
    ap (λ us. record { model = c.args.self.now.model; next = c.args.self.now.next; records = us })
    (put-at record_data (λ (u : plain.Record). u.id == c.args.id) (with_value slot.field (value_data slot.value)) rs c.in-Some.at c.put.new.self r
    (rw c.as_slice.ensures.value at c.in-Some.ensures) (c.put.ensures ∙ ap (λ u. with_value slot.field (value_data slot.value) (record_data u)) c.index_mut-record.ensures.value))

pub returns-in-None : goal.returns-in-None
returns-in-None c =
    let rs = c.args.self.now.records.items in
    let slot = c.args.slot in
    ap (λ us. record { model = c.args.self.now.model; next = c.args.self.now.next; records = us })
    (sym (none-put record_data (λ (u : plain.Record). u.id == c.args.id) (with_value slot.field (value_data slot.value)) rs (rw c.as_slice.ensures.value at c.in-None.ensures)))
