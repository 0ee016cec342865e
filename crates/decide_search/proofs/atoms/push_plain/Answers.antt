use Rattle.decide_search.proofs.Taken.{plain_taken}
use Rattle.decide_search.proofs.atoms.push_plain.Goals as goal

pub returns-clause-taken : goal.returns-clause-taken
returns-clause-taken c = λ terms texts h. plain_taken terms texts c.loop-done._done c.args.atoms.now c.loop-done.atoms c.loop-done.invariant h
