use Rattle.std.proofs.lemmas.Result.{on_ok_weaker}
use Rattle.form_strata.proofs.VisitLaws.{meets_both}
use Rattle.form_strata.proofs.edges.Walk.come_to_forall.Goals as goal

pub returns-clause-visits : goal.returns-clause-visits
returns-clause-visits c = on_ok_weaker _ (λ second. meets_both _ _ _ _ _ c.in_ok-come_to.ensures.visits second) c.come_to-2.ensures.visits
