use Rattle.std.proofs.Common.{◌∙◌}
use Rattle.ground_problem.proofs.SpokenLaws.{words_for}
use Rattle.ground_problem.proofs.spoken.words_of.Goals as goal

pub returns : goal.returns
returns c =
    let s = c.args.source in
    words_for s.signature.now c.args.arena.now s.variables.now s.closed s.terms.now s.listed.now c.args.inputs.now c.in_ok-telling.telling c.finished.result c.finished.ensures.named c.finished.ensures.others
    (c.finished.ensures.pairs ∙ c.in_ok-pairs.ensures) c.in_ok-telling.ensures
