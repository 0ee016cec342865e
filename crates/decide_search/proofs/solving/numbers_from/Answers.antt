use Rattle.std.proofs.Common.{◌∙◌, ◌+◌, ◌++◌, ◌∷◌, [], ap, sym}
use Rattle.decide_search.proofs.Encoded.{range_split}
use Rattle.decide_search.proofs.solving.numbers_from.Goals as goal

pub loop-place-preserved : goal.loop-place-preserved
loop-place-preserved c =
    c.in_ok-push.ensures.items ∙ (ap (λ ns. ns ++ (c.args.first + c.loop-place.place) ∷ []) c.loop-place.invariant ∙ sym (range_split c.args.first c.loop-place.place 1))
