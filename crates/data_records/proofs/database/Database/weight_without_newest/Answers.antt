use Rattle.std.proofs.Common.{◌≡◌, ◌≤◌, ◌-◌, ap, sym, ◌∙◌, arith}
use Rattle.std.specs.Prelude.{Some}
use Rattle.std.specs.Option.{option_map}
use Rattle.data_records.specs.Room.{record_weight, total_weight}
use Rattle.data_records.specs.Undone.{last_of, newest}
use Rattle.data_records.specs.Views.{record_data}
use Rattle.data_records.proofs.Undone.{last-seen, newest-weighs}
use Rattle.data_records.proofs.database.Database.weight_without_newest.Goals as goal

pub slots_weight-requires : goal.slots_weight-requires
slots_weight-requires c =
    let d = c.args.self.now in
    let r = record_data c.in-Some.record.now in
    let is : newest d c.args.m ≡ Some r = ap last_of (sym c.records.ensures.all) ∙ sym (last-seen record_data c.records.result.now) ∙ ap (option_map record_data) (sym c.in-Some.ensures.value) in
    let within : record_weight r ≤ total_weight d = newest-weighs d c.args.m r is in
    let total : total_weight d ≡ c.self.inside.weight = ap total_weight (sym c.self.view_is) ∙ sym c.self.invariant.0.weighed in
    rw c.as_slice.ensures (omega (arith, within, total))

pub overflow_sub-result : goal.overflow_sub-result
overflow_sub-result c =
    let d = c.args.self.now in
    let r = record_data c.in-Some.record.now in
    let is : newest d c.args.m ≡ Some r = ap last_of (sym c.records.ensures.all) ∙ sym (last-seen record_data c.records.result.now) ∙ ap (option_map record_data) (sym c.in-Some.ensures.value) in
    let within : record_weight r ≤ total_weight d = newest-weighs d c.args.m r is in
    let total : total_weight d ≡ c.self.inside.weight = ap total_weight (sym c.self.view_is) ∙ sym c.self.invariant.0.weighed in
    let whole = rw c.as_slice.ensures at c.slots_weight.ensures in
    omega (arith, within, total, whole)

pub returns-in-Some : goal.returns-in-Some
returns-in-Some c =
    let d = c.args.self.now in
    let r = record_data c.in-Some.record.now in
    let is : newest d c.args.m ≡ Some r = ap last_of (sym c.records.ensures.all) ∙ sym (last-seen record_data c.records.result.now) ∙ ap (option_map record_data) (sym c.in-Some.ensures.value) in
    let total : total_weight d ≡ c.self.inside.weight = ap total_weight (sym c.self.view_is) ∙ sym c.self.invariant.0.weighed in
    let whole : c.slots_weight.result ≡ record_weight r = rw c.as_slice.ensures at c.slots_weight.ensures in
    ap Some (ap (λ n. n - c.slots_weight.result) (sym total) ∙ ap (λ n. total_weight d - n) whole) ∙ sym (ap (option_map (λ r. total_weight d - record_weight r)) is)
