use Rattle.std.proofs.Common.{ap, ◌∙◌}
use Rattle.std.specs.List.{list_any}
use Rattle.check_report.specs.Views.{witness_data}
use Rattle.impact_shrink.specs.Judged.{is_same_cell}
use Rattle.impact_shrink.proofs.Cells.{touches-so}
use Rattle.impact_shrink.proofs.rights.touches.Goals as goal

pub returns : goal.returns
returns c =
    c.has_cell.ensures ∙ ap (list_any (is_same_cell c.args.cell)) c.as_slice.ensures.value
    ∙ touches-so (witness_data c.args.w.now) c.args.after.now c.args.cell _ _ c.in_ok-cells.cells.items c.in-Some.ensures c.in_ok-cells.ensures
