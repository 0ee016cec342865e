use Rattle.std.proofs.Common.{rules, ◌≡◌, subst}
use Rattle.type_schema.specs.SchemaViews.{script_of}
use Rattle.check_scripts.specs.Outcomes.{IsOutcome, Outcome, accepted}
use Rattle.check_scripts.specs.Views.{outcome_data}
use Rattle.app_certify.specs.Proved.{Found, Proved}
use Rattle.app_certify.proofs.Cleared.{accepted_within}
use Rattle.app_certify.proofs.ProveLaws.{less_silent, never_accepted}
use Rattle.app_certify.proofs.prove.put_checked.Goals as goal

pub returns-in_default : goal.returns-in_default
returns-in_default g c = record {
  put = Found (never_accepted c.args.checked.outcome c.in_default.not-Accepted) c.put_answer.ensures.put;
  out = less_silent g.W.Sink.faults _ _ _ c.put_answer.ensures.out;
  not_read = c.put_answer.ensures.not_read;
}

pub put_certificate-requires-clause-within : goal.put_certificate-requires-clause-within
put_certificate-requires-clause-within g c =
    let t = script_of c.args.checked.script in
    let is : outcome_data c.args.checked.outcome ≡ accepted c.in-Accepted.duties = search rules in
    accepted_within t c.in-Accepted.duties (subst (λ (o : Outcome). IsOutcome t o) is c.requires.outcome)

pub returns-clause-put : goal.returns-clause-put
returns-clause-put g c =
    let is : outcome_data c.args.checked.outcome ≡ accepted c.in-Accepted.duties = search rules in
    Proved c.in-Accepted.duties is c.put_certificate.ensures.proof
