use Rattle.std.proofs.Common.{◌∙◌, ◌+◌, ◌++◌, ◌∷◌, [], ap, sym}
use Rattle.certify_problem.proofs.Lists.{range_more}
use Rattle.certify_problem.proofs.listed.numbers_from.Goals as goal

pub loop-place-preserved : goal.loop-place-preserved
loop-place-preserved c =
    c.in_ok-push.ensures.items ∙ (ap (λ ns. ns ++ (c.args.first + c.loop-place.place) ∷ []) c.loop-place.invariant ∙ sym (range_more c.args.first c.loop-place.place))
