use Rattle.std.proofs.Common.{◌-◌, ap, ◌∙◌, arith, map, take}
use Rattle.data_records.specs.TakenBack.{without_last}
use Rattle.data_records.specs.Views.{slot_data}
use Rattle.data_records.proofs.Moves.{last-off}
use Rattle.data_records.proofs.slots.Slots.take_last.Goals as goal

pub returns : goal.returns
returns c =
    let old = c.self.inside.items in
    ap (map slot_data) (c.pop-taken.ensures.rest ∙ ap (λ n. take (n - 1) old.items) (omega (arith, old.ok.0)))
    ∙ last-off slot_data old.items
    ∙ ap (λ us. without_last (map slot_data us)) c.self.view_is
