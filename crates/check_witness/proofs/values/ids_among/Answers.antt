use Rattle.std.proofs.Common.{◌∙◌, ap, sym, ◌==◌, ◌++◌, ◌∷◌, ◌+◌, []}
use Rattle.std.specs.Prelude.{if◌then◌else◌}
use Rattle.std.specs.List.{list_any}
use Rattle.check_witness.proofs.Related.{ids-more}
use Rattle.check_witness.proofs.values.ids_among.Goals as goal

pub loop-y-preserved : goal.loop-y-preserved
loop-y-preserved c =
    c.in_ok-push_id.ensures
    ∙ ap (λ z. z ++ (if list_any (λ o. o == c.loop-y.y) c.args.others.now then (c.loop-y.y + 1) ∷ [] else [])) c.loop-y.invariant
    ∙ sym (ids-more (λ y. list_any (λ o. o == y) c.args.others.now) c.loop-y.y)
