use Rattle.std.proofs.Common.{◌≡◌, ◌≤◌, None, length, sym, subst}
use Rattle.certify_clauses.specs.Paths.{value_on}
use Rattle.certify_clauses.specs.PathView.{PathView}
use Rattle.certify_clauses.proofs.ValuesOn.{value_on-past}
use Rattle.certify_clauses.proofs.path.Path.value_of.Goals as goal

pub returns-in-None : goal.returns-in-None
returns-in-None c =
    let n = length c.self.inside.values.items in
    let past : n ≤ c.args.var = rw (← c.deref.ensures.value) c.in-None.ensures.lookup.3 in
    subst (λ (p : PathView). None ≡ value_on p.literals c.args.var) c.self.view_is
    (sym (value_on-past c.self.inside.literals.items n c.args.var c.self.invariant.below past))
