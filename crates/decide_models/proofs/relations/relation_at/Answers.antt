use Rattle.std.proofs.Common.{◌∙◌, sym, append-nil}
use Rattle.decide_models.specs.Columns.{related_in}
use Rattle.decide_models.proofs.Steps.{flat_map_goes_on}
use Rattle.decide_models.proofs.relations.relation_at.Goals as goal
use Rattle.decide_models.proofs.relations.relation_at.Goals.{in-Some+in_ok-push, in_default}

pub loop-place-preserved : goal.loop-place-preserved
loop-place-preserved c =
    let f = related_in c.args.related.now c.args.elements.now c.args.relation in
    let step = flat_map_goes_on f c.args.pairs.now c.loop-place.place _ c.loop-place.found in
    elim c.match-related_in.branch [
      | in-Some+in_ok-push w ↦ w.found-is ∙ step _ _ c.loop-place-test.true c.loop-place.invariant w.in-Some.ensures w.in_ok-push.ensures.ok
      | in_default w ↦ w.found-is ∙ step _ _ c.loop-place-test.true c.loop-place.invariant w.in_default.ensures (sym (append-nil c.loop-place.found))
    ]
