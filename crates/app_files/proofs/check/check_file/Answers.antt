use Rattle.std.proofs.Common.{rules, ◌≡◌}
use Rattle.std.specs.Prelude.{Err}
use Rattle.type_typing.specs.Names.{plain_of}
use Rattle.app_files.specs.Answer.{Checks, ScriptOf}
use Rattle.app_files.specs.Loads.{Fetches}
use Rattle.app_files.proofs.InTurn.{then-cut, then-join}
use Rattle.app_files.proofs.check.check_file.Goals as goal

pub returns-in_err-text-clause-checked : goal.returns-in_err-text-clause-checked
returns-in_err-text-clause-checked g c =
    let same : c.from_residual.result ≡ Err c.in_err-text.field-0.0 = search rules in
    then-cut (Fetches (g.F.Shelf.told c.args.shelf.now) c.args.name.now) (ScriptOf c.args.name.now (plain_of c.args.schema.now)) Checks _ c.in_err-text.field-0.0 c.in_err-text.ensures.fetched same

pub returns-clause-checked : goal.returns-clause-checked
returns-clause-checked g c =
    then-join (Fetches (g.F.Shelf.told c.args.shelf.now) c.args.name.now) (ScriptOf c.args.name.now (plain_of c.args.schema.now)) Checks _ c.in_ok-text.text.items c.in_ok-text.ensures.fetched
    (rw c.as_slice-bytes.ensures.value at c.check_script_text.ensures.checked)
