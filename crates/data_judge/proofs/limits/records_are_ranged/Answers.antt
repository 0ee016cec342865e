use Rattle.data_records.specs.declared.record.Record as code_record
use Rattle.data_meaning.specs.Database.{Record}
use Rattle.data_records.specs.Views.{record_data}
use Rattle.data_judge.specs.Ranged.{HaveRanges}
use Rattle.data_judge.proofs.Each.{none-seen, over-seen, all-seen}
use Rattle.data_judge.proofs.limits.records_are_ranged.Goals as goal

pub loop-row-init : goal.loop-row-init
loop-row-init c = none-seen (λ (r : code_record.Record). HaveRanges (record_data r).slots) c.args.records.now

pub returns : goal.returns
returns c =
    let P = λ (r : code_record.Record). HaveRanges (record_data r).slots in
    all-seen record_data (λ (r : Record). HaveRanges r.slots) c.args.records.now (over-seen P c.args.records.now c.loop-row.row-index c.loop-row-test.false c.loop-row.invariant)
