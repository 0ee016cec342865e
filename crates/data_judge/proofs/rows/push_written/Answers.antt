use Rattle.std.proofs.Common.{◌≡◌, ◌∙◌, ◌++◌, sym, true, map, subst}
use Rattle.std.specs.Prelude.{OnOk}
use Rattle.type_schema.specs.SchemaViews.{field_info_of}
use Rattle.data_records.specs.Views.{slot_data}
use Rattle.data_judge.specs.InOrder.{are_in_order}
use Rattle.data_judge.proofs.InOrder.{written-in-order}
use Rattle.data_judge.proofs.rows.push_written.Goals as goal

pub returns-then-are_in_order : goal.returns-then-are_in_order
returns-then-are_in_order c =
    let fields = map field_info_of c.args.fields.now in
    let ws = c.args.ws.now in
    let e : are_in_order fields ws ≡ true = sym c.are_in_order.ensures ∙ c.if-are_in_order.true in
    subst (λ ss. OnOk c.push_paired.result (map slot_data c.push_paired.new.slots ≡ map slot_data c.args.slots.now ++ ss)) (written-in-order fields ws c.requires e) c.push_paired.ensures
