use Rattle.form_strata.proofs.VisitLaws.{meets_one}
use Rattle.form_strata.proofs.edges.Walk.come_to.Goals as goal

pub returns-clause-visits : goal.returns-clause-visits
returns-clause-visits c = meets_one _ _ _ c.in_ok-insert.ensures.keys
