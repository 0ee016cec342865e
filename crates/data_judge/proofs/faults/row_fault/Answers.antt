use Rattle.std.proofs.Common.{◌≡◌, ◌∙◌, sym, true, map, subst}
use Rattle.std.specs.Prelude.{IfOk}
use Rattle.type_schema.specs.SchemaViews.{field_info_of}
use Rattle.data_judge.specs.Faults.{row_fault}
use Rattle.data_judge.specs.InOrder.{are_in_order}
use Rattle.data_judge.proofs.InOrder.{row-in-order, told}
use Rattle.data_judge.proofs.faults.row_fault.Goals as goal

pub returns-then-are_in_order : goal.returns-then-are_in_order
returns-then-are_in_order c =
    let fields = map field_info_of c.args.fields.now in
    let ws = c.as_slice-ws.result.now in
    let close = c.args.row.now.«end» in
    let e : are_in_order fields ws ≡ true = sym c.are_in_order.ensures ∙ c.if-are_in_order.true in
    subst (λ us. IfOk c.values_fault.result (λ fault. fault ≡ row_fault fields us close)) c.as_slice-ws.ensures
    (told c.values_fault.result _ _ (row-in-order fields ws c.requires e close) c.values_fault.ensures)
