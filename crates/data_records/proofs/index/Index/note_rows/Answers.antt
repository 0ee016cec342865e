use Rattle.std.proofs.Common.{subst, map}
use Rattle.data_meaning.specs.Database.{Record}
use Rattle.data_records.specs.Namings.{AreKnown}
use Rattle.data_records.specs.Views.{record_data, slot_data}
use Rattle.data_records.proofs.Noted.{all-further, all-known}
use Rattle.data_records.proofs.index.Index.note_rows.Goals as goal

pub loop-record-preserved : goal.loop-record-preserved
loop-record-preserved c =
    let x = c.loop-record.self in
    let y = c.note_all.new.self in
    let m = c.args.m in
    let r = c.record-item.result in
    record {
      kept = λ n i g w known. c.note_all.ensures.kept n i g w (c.loop-record.invariant.kept n i g w known);
      noted = all-further record_data (λ (r : Record). AreKnown x m r.id r.slots) (λ (r : Record). AreKnown y m r.id r.slots) (λ r. all-known x y m r.id c.note_all.ensures.kept r.slots)
          c.args.records.now c.loop-record.record-index r c.loop-record-test.true c.record-item.is c.loop-record.invariant.noted
          (subst (λ slots. AreKnown y m r.id (map slot_data slots)) c.as_slice.ensures c.note_all.ensures.noted);
    }
