use Rattle.std.proofs.Common.{◌<◌, ap, subst, sym, ◌∙◌}
use Rattle.certify_clauses.specs.PathView.{PathView}
use Rattle.certify_recheck.proofs.Steps.{split_step}
use Rattle.certify_recheck.proofs.walk.split.Goals as goal

pub returns-in_ok-push-in-None-clause-step : goal.returns-in_ok-push-in-None-clause-step
returns-in_ok-push-in-None-clause-step g c =
    split_step (g.C.Clauses.problem c.args.c.now) c.args.path.now.literals c.push.new.self.literals c.args.var
    (subst (λ n. c.args.var < n) c.vars.ensures c.if-var-vars.false) (sym c.value_of.ensures ∙ c.in-None.is)
    (ap (λ (p : PathView). p.literals) c.in_ok-push-in-None.ensures.ok)
