use Rattle.std.proofs.Common.{rules, ◌≡◌, refl}
use Rattle.check_scripts.specs.Outcomes.{accepted}
use Rattle.check_scripts.specs.Views.{outcome_data}
use Rattle.app_store.specs.Answer.{Applies}
use Rattle.app_store.proofs.stages.decision.Goals as goal

pub returns-clause-decided : goal.returns-clause-decided
returns-clause-decided c =
    let is : outcome_data c.args.checked.outcome ≡ accepted c.in-Accepted.duties = search rules in
    Applies c.in-Accepted.duties c.in_ok-after.after is c.in_ok-after.ensures.applied refl
