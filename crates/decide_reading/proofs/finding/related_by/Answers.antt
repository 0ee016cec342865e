use Rattle.std.proofs.Common.{◌∙◌, Bool, ap, false, map}
use Rattle.std.proofs.lemmas.List.{take_all}
use Rattle.ground_problem.specs.declared.words.PairNode.{PairNode}
use Rattle.std.specs.Prelude.{position}
use Rattle.decide_reading.specs.Columns.{at_or, is_same_pair}
use Rattle.decide_reading.proofs.Steps.{mapped_more}
use Rattle.decide_reading.proofs.finding.related_by.Goals as goal

pub loop-pair-preserved : goal.loop-pair-preserved
loop-pair-preserved c =
    mapped_more (λ p. at_or c.args.columns.now.related (position (is_same_pair p) c.args.pairs.now) false) c.args.list.now c.loop-pair.pair-index _ _ _ _ c.loop-pair-test.true c.loop-pair.invariant
    c.is_related.ensures c.in_ok-push.ensures.ok

pub returns : goal.returns
returns c =
    let f : PairNode → Bool = λ p. at_or c.args.columns.now.related (position (is_same_pair p) c.args.pairs.now) false in
    c.loop-pair.invariant ∙ (ap (map f) (take_all c.loop-pair.pair-index c.args.list.now c.loop-pair-test.false) ∙ ap (map f) c.requires)
