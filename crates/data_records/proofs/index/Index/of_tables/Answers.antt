use Rattle.std.proofs.Common.{subst, map}
use Rattle.std.specs.List.{AllByRecursion}
use Rattle.std.proofs.lemmas.List.{take_all}
use Rattle.data_meaning.specs.Database.{Table}
use Rattle.data_records.specs.Namings.{AreRowsKnown}
use Rattle.data_records.specs.Views.{record_data, table_data}
use Rattle.data_records.proofs.Noted.{all-further, known-all, rows-known}
use Rattle.data_records.proofs.index.Index.of_tables.Goals as goal

pub loop-table-preserved : goal.loop-table-preserved
loop-table-preserved c =
    let x = c.loop-table.index in
    let y = c.note_rows.new.self in
    let t = c.table-item.result in
    all-further table_data (λ (t : Table). AreRowsKnown x t.model t.records) (λ (t : Table). AreRowsKnown y t.model t.records) (λ t. rows-known x y t.model c.note_rows.ensures.kept t.records)
    c.args.tables.now c.loop-table.table-index t c.loop-table-test.true c.table-item.is c.loop-table.invariant
    (subst (λ rs. AreRowsKnown y t.model (map record_data rs)) c.as_slice.ensures.value c.note_rows.ensures.noted)

pub returns : goal.returns
returns c =
    let x = c.loop-table.index in
    known-all x (map table_data c.args.tables.now)
    (subst (λ ts. AllByRecursion (λ (t : Table). AreRowsKnown x t.model t.records) (map table_data ts)) (take_all c.loop-table.table-index c.args.tables.now c.loop-table-test.false) c.loop-table.invariant)
