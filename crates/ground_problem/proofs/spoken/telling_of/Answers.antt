use Rattle.ground_problem.proofs.SpokenLaws.{telling_for}
use Rattle.ground_problem.proofs.spoken.telling_of.Goals as goal

pub returns : goal.returns
returns c =
    let s = c.args.source in
    telling_for s.signature.now c.args.arena.now s.variables.now s.closed s.terms.now s.listed.now c.args.inputs.now c.in_ok-telling.telling s.marks.now c.requires.all c.in_ok-telling.ensures.telling
    c.in_ok-telling.ensures.listed (c.are_told.ensures c.if-not-are_told.false)
