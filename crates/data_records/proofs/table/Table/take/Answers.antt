use Rattle.std.proofs.Common.{◌==◌, ap, sym, ◌∙◌, map}
use Rattle.std.proofs.lemmas.Bool.{eqb-true}
use Rattle.data_meaning.specs.Database as plain
use Rattle.data_records.specs.Views.{record_data}
use Rattle.data_records.proofs.Firsts.{taken-at, none-taken}
use Rattle.data_records.proofs.table.Table.take.Goals as goal

pub returns-in-Some-clause-left : goal.returns-in-Some-clause-left
returns-in-Some-clause-left c =
    let rs = c.args.self.now.records.items in
    ap (λ us. record { model = c.args.self.now.model; next = c.args.self.now.next; records = us })
    (ap (map record_data) c.remove.ensures.items ∙ taken-at record_data (λ (u : plain.Record). u.id == c.args.id) rs c.in-Some.at (rw c.as_slice.ensures.value at c.in-Some.ensures))

pub returns-in-Some-clause-taken : goal.returns-in-Some-clause-taken
returns-in-Some-clause-taken c =
    let first = rw c.as_slice.ensures.value at c.in-Some.ensures in
    ap (λ r. r.id) c.remove.ensures.value ∙ eqb-true _ c.args.id (first.1 c.remove.result)

pub returns-in-None-clause-left : goal.returns-in-None-clause-left
returns-in-None-clause-left c =
    let rs = c.args.self.now.records.items in
    ap (λ us. record { model = c.args.self.now.model; next = c.args.self.now.next; records = us })
    (sym (none-taken record_data (λ (u : plain.Record). u.id == c.args.id) rs (rw c.as_slice.ensures.value at c.in-None.ensures)))
