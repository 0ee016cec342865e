use Rattle.std.proofs.Common.{◌≡◌, ◌+◌, suc, ap, sym, ◌∙◌, arith, set, map}
use Rattle.std.proofs.lemmas.List.{length-map}
use Rattle.data_records.specs.TakenBack.{taken_back}
use Rattle.data_records.specs.Views.{record_data}
use Rattle.data_records.proofs.Moves.{none-back, one-back}
use Rattle.data_records.proofs.columns.take_back.Goals as goal

pub loop-at-preserved : goal.loop-at-preserved
loop-at-preserved c =
    let rs = c.loop-at.records in
    let at = c.loop-at.at in
    let u = c.take_last.new.self in
    let d = c.index-records-at.result in
    let next : at + 1 ≡ suc at = omega arith in
    ap (λ k. taken_back k (map record_data (set rs at u))) next ∙ one-back rs at u d (omega arith) c.take_last.ensures ∙ c.loop-at.invariant

pub returns : goal.returns
returns c =
    let rs = map record_data c.loop-at.records in
    sym (none-back rs c.loop-at.at (omega (arith, length-map c.loop-at.records record_data))) ∙ c.loop-at.invariant
