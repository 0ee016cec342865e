use Rattle.std.proofs.Common.{◌≡◌, ◌<◌, None, sym, subst}
use Rattle.certify_clauses.specs.Paths.{value_on}
use Rattle.certify_clauses.specs.PathView.{PathView}
use Rattle.certify_clauses.proofs.PathStates.{path_push}
use Rattle.certify_clauses.proofs.path.Path.push.Goals as goal

pub invariant_of-self-2 : goal.invariant_of-self-2
invariant_of-self-2 c =
    let there = subst (λ (p : PathView). c.args.literal.var < p.vars) (sym c.self.view_is) c.requires.there in
    let fresh = subst (λ (p : PathView). value_on p.literals c.args.literal.var ≡ None) (sym c.self.view_is) c.requires.fresh in
    rw (c.in_ok-push.ensures.items) (path_push c.self.inside.literals.items c.args.literal c.self.inside.values.items c.self.invariant there fresh)
