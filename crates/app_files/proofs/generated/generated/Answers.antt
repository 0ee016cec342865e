use Rattle.std.proofs.Common.{rules, ◌≡◌, refl}
use Rattle.std.specs.Prelude.{Err}
use Rattle.app_files.specs.Stages.{Stops, Goes}
use Rattle.app_files.proofs.generated.generated.Goals as goal

pub returns-in_err-tightened-clause-generates : goal.returns-in_err-tightened-clause-generates
returns-in_err-tightened-clause-generates c =
    let same : c.from_residual.result ≡ Err c.in_err-tightened.field-0.0 = search rules in
    Stops c.in_err-tightened.field-0.0 c.in_err-tightened.ensures.checked same

pub returns-in_err-loosened-clause-generates : goal.returns-in_err-loosened-clause-generates
returns-in_err-loosened-clause-generates c =
    let same : c.from_residual-in_err-loosened.result ≡ Err c.in_err-loosened.field-0.0 = search rules in
    Goes c.in_ok-tightened.tightened c.in_ok-tightened.ensures.checked (Stops c.in_err-loosened.field-0.0 c.in_err-loosened.ensures.checked same)

pub returns-clause-generates : goal.returns-clause-generates
returns-clause-generates c =
    Goes c.in_ok-tightened.tightened c.in_ok-tightened.ensures.checked (Goes c.in_ok-loosened.loosened c.in_ok-loosened.ensures.checked refl)
