use Rattle.std.proofs.Common.{rules, ◌≡◌}
use Rattle.std.specs.Prelude.{Err}
use Rattle.type_schema.specs.SchemaViews.{script_of}
use Rattle.app_files.proofs.InTurn.{comes-stopped, comes-behind}
use Rattle.app_files.proofs.check.script_of_file.Goals as goal

pub returns-in_err-text-clause-asked : goal.returns-in_err-text-clause-asked
returns-in_err-text-clause-asked g c =
    let same : c.from_residual.result ≡ Err c.in_err-text.field-0.0 = search rules in
    comes-stopped _ _ script_of _ c.in_err-text.field-0.0 c.in_err-text.ensures.fetched same

pub returns-clause-asked : goal.returns-clause-asked
returns-clause-asked g c = comes-behind _ _ script_of _ c.in_ok-text.text.items c.in_ok-text.ensures.fetched (rw c.as_slice-bytes.ensures.value at c.script_of_text.ensures.read)
