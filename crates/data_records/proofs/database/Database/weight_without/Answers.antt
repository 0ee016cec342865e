use Rattle.std.proofs.Common.{◌≡◌, ◌≤◌, ap, sym, ◌∙◌, arith}
use Rattle.data_records.specs.Room.{record_weight, total_weight}
use Rattle.data_records.specs.Views.{record_data}
use Rattle.data_records.proofs.Places.{row-weighs}
use Rattle.data_records.proofs.database.Database.weight_without.Goals as goal

pub slots_weight-requires : goal.slots_weight-requires
slots_weight-requires c =
    let within : record_weight (record_data c.in-Some.record.now) ≤ total_weight c.args.self.now = row-weighs c.args.self.now c.args.m c.args.id (record_data c.in-Some.record.now) (sym c.in-Some.ensures) in
    let total : total_weight c.args.self.now ≡ c.self.inside.weight = ap total_weight (sym c.self.view_is) ∙ sym c.self.invariant.0.weighed in
    rw c.as_slice.ensures (omega (arith, within, total))

pub overflow_sub-result : goal.overflow_sub-result
overflow_sub-result c =
    let within : record_weight (record_data c.in-Some.record.now) ≤ total_weight c.args.self.now = row-weighs c.args.self.now c.args.m c.args.id (record_data c.in-Some.record.now) (sym c.in-Some.ensures) in
    let total : total_weight c.args.self.now ≡ c.self.inside.weight = ap total_weight (sym c.self.view_is) ∙ sym c.self.invariant.0.weighed in
    let whole = rw c.as_slice.ensures at c.slots_weight.ensures in
    omega (arith, within, total, whole)
