use Rattle.std.proofs.Common.{◌≤◌, length, subst}
use Rattle.certify_clauses.specs.PathView.{PathView}
use Rattle.certify_clauses.proofs.PathStates.{path_few}
use Rattle.certify_clauses.proofs.path.Path.literals.Goals as goal

pub returns-clause-few : goal.returns-clause-few
returns-clause-few c =
    let few = path_few c.self.inside.literals.items c.self.inside.values.items c.self.invariant in
    rw (c.as_slice.ensures.value) (subst (λ (p : PathView). length c.self.inside.literals.items ≤ p.vars) c.self.view_is few)
