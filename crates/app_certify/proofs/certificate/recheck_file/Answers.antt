use Rattle.std.proofs.Common.{rules, ◌≡◌}
use Rattle.std.specs.Prelude.{Err}
use Rattle.app_files.specs.Stages.{Goes, Stops}
use Rattle.app_certify.proofs.certificate.recheck_file.Goals as goal

pub returns-in_err-text-clause-checked : goal.returns-in_err-text-clause-checked
returns-in_err-text-clause-checked g c =
    let same : c.from_residual.result ≡ Err c.in_err-text.field-0.0 = search rules in
    Stops c.in_err-text.field-0.0 c.in_err-text.ensures.fetched same

pub returns-clause-checked : goal.returns-clause-checked
returns-clause-checked g c = Goes c.in_ok-text.text.items c.in_ok-text.ensures.fetched (rw c.as_slice-bytes.ensures.value at c.recheck_text.ensures.checked)
