use Rattle.std.proofs.Common.{rules, ◌+◌}
use Rattle.std.proofs.lemmas.Bool.{and_from}
use Rattle.certify_atoms.proofs.atoms.below.Goals as goal

pub returns-clause-is : goal.returns-clause-is
returns-clause-is c = (rw c.most.ensures.is (search rules), rw c.most-2.ensures.is (search rules))

pub returns-clause-taken : goal.returns-clause-taken
returns-clause-taken c = λ terms texts lt lt'. and_from _ _ (c.most.ensures.taken (terms + texts) (terms + 1) lt lt') (c.most-2.ensures.taken (terms + texts) (terms + 1) lt' lt)
