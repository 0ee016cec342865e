use Rattle.std.proofs.Common.{rules, ◌≡◌, refl}
use Rattle.std.specs.Prelude.{Err}
use Rattle.app_files.specs.Stages.{Stops, Goes}
use Rattle.app_store.specs.declared.stop.StoreStop.TheVariants as why
use Rattle.app_store.proofs.data.base_of_file.Goals as goal

pub returns-in_err-text-clause-read : goal.returns-in_err-text-clause-read
returns-in_err-text-clause-read g c =
    let same : c.from_residual.result ≡ Err (why.Files c.in_err-text.field-0.0) = search rules in
    Stops (why.Files c.in_err-text.field-0.0) (c.in_err-text.field-0.0, refl, c.in_err-text.ensures.fetched) same

pub returns-clause-read : goal.returns-clause-read
returns-clause-read g c =
    Goes c.in_ok-text.text.items c.in_ok-text.ensures.fetched (rw c.as_slice-bytes.ensures.value at c.base_of_text.ensures.read)
