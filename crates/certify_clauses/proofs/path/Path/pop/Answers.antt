use Rattle.std.proofs.Common.{◌<◌, None, sym, subst}
use Rattle.std.proofs.lemmas.List.{length-set}
use Rattle.certify_clauses.proofs.PathStates.{last_there, path_pop}
use Rattle.certify_clauses.proofs.path.Path.pop.Goals as goal

pub invariant_of-self-2 : goal.invariant_of-self-2
invariant_of-self-2 c =
    path_pop c.pop.new.self.items c.in_ok-last.last c.self.inside.values.items
    (rw (c.in_ok-last.ensures.items) at c.self.invariant)

pub returns-clause-fresh : goal.returns-clause-fresh
returns-clause-fresh c =
    let last = last_there c.pop.new.self.items c.in_ok-last.last c.self.inside.values.items (rw (c.in_ok-last.ensures.items) at c.self.invariant) in
    (subst (λ n. c.in_ok-last.last.var < n) (sym (length-set c.self.inside.values.items c.in_ok-last.last.var None)) last.0, last.1)
