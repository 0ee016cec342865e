use Rattle.std.proofs.Common.{refl, sym, subst}
use Rattle.type_schema.specs.SchemaViews.{script_of}
use Rattle.check_report.specs.Views.{witness_data}
use Rattle.check_scripts.specs.declared.outcome.Outcome as code
use Rattle.check_scripts.specs.Outcomes.{leak, IsOutcome}
use Rattle.check_scripts.specs.Views.{outcome_data}
use Rattle.impact_shrink.specs.Shown.{IsMadeSmall}
use Rattle.impact_shrink.proofs.Shown.{leaking-real, outcome-leaks, small-for}
use Rattle.impact_shrink.proofs.outcomes.made_small.Goals as goal

pub shrink-requires-clause-real : goal.shrink-requires-clause-real
shrink-requires-clause-real c =
    let found = subst (λ (o : code.Outcome). IsOutcome (script_of c.args.t.now) (outcome_data o)) c.in-Leak.is c.requires.outcome in
    leaking-real (script_of c.args.t.now) (witness_data c.in-Leak.w) (outcome-leaks (script_of c.args.t.now) c.requires.script (witness_data c.in-Leak.w) found)

pub returns-in_ok-small-in-Leak : goal.returns-in_ok-small-in-Leak
returns-in_ok-small-in-Leak c =
    let found = subst (λ (o : code.Outcome). IsOutcome (script_of c.args.t.now) (outcome_data o)) c.in-Leak.is c.requires.outcome in
    subst (λ (o : code.Outcome). IsMadeSmall (script_of c.args.t.now) (outcome_data o) (leak (witness_data c.in_ok-small-in-Leak.small))) (sym c.in-Leak.is)
    (witness_data c.in_ok-small-in-Leak.small, refl, small-for (script_of c.args.t.now) c.requires.script (witness_data c.in-Leak.w) (witness_data c.in_ok-small-in-Leak.small) found c.in_ok-small-in-Leak.ensures.small c.in_ok-small-in-Leak.ensures.part)
